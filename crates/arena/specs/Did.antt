-- What a builder leaves. A pure step runs on an arena without an end; the answer 'no room' is read off the mark that it comes to.
use Rattle.std.specs.Prelude.{◌≡◌, ℕ, ◌≤◌, cond, List, length, take, leb}
use Rattle.std.proofs.Math.Option.{Option, none, some}
use Rattle.arena.specs.Nodes.{Node, node, Nodes, mark, Out, put, ◌⨟◌}
use Rattle.arena.specs.Cells.{padded, used}

-- an answer: the mark and a position, or no room
pub data Reply : Type 0 where
  built : ℕ → ℕ → Reply
  full : Reply

-- the answer of a step that comes to the arena and the position o, in n cells
unfoldable pub reply : ℕ → Out → Reply
reply n o = cond (leb (mark o.arena) n) (built (mark o.arena) o.at) full

-- from the cells c with the mark m a step came to o: its answer r and the cells c' afterwards. Where there was no room the cells from the
-- mark on are as the steps left them, for the caller to clear.
pub record Done (o : Out) (c : List ℕ) (m : ℕ) (r : Reply) (c' : List ℕ) : Type 0 where
  pub answer : r ≡ reply (length c) o
  pub long : length c' ≡ length c
  pub grown : m ≤ mark o.arena
  pub kept : take m c' ≡ take m c
  pub left : mark o.arena ≤ length c → c' ≡ padded (length c) o.arena

-- a term after its type
abbrev pub put_typed : Nodes → Node → ℕ → ℕ → List ℕ → Out
put_typed a n k p ms = put a n ⨟ λ b t. put b (node k t p ms)

-- the contract of every builder
abbrev pub Did : (Nodes → Out) → List ℕ → ℕ → Reply → List ℕ → Type 0
Did F c m r c' = Done (F (used c m)) c m r c'

-- where a node was found, else the mark
abbrev pub found_or : ℕ → Option ℕ → ℕ
found_or m none = m
found_or m (some p) = p
