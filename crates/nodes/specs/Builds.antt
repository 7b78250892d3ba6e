-- What a builder leaves of an arena, and what its answer stands for.
use Rattle.std.specs.Prelude.{◌≡◌, ◌≤◌, ℕ, Option, Some, None, Result, Ok, Err}
use Rattle.std.proofs.Math.Option.{Option as Place, none, some}
use Rattle.arena.specs.Nodes.{Nodes, Out}
use Rattle.arena.specs.Cells.{used}
use Rattle.arena.specs.WellFormed.{Below, IsArena}
use Rattle.arena.specs.Did.{Reply, built, full, Did}
use Rattle.arena.specs.declared.TermPos.{TermPos}
use Rattle.arena.specs.declared.TypePos.{TypePos}
use Rattle.nodes.specs.declared.Full.{Full}
use Rattle.nodes.specs.declared.Arena.{Arena}

-- the nodes below the mark
abbrev pub nodes_of : Arena → Nodes
nodes_of o = used o.cells.now o.mark

-- the cells below the mark are a well-formed arena, the others are 0
abbrev pub Formed : Arena → Type 0
Formed o = IsArena o.cells.now o.mark

-- what reading asks: the cells below the mark are a well-formed arena
abbrev pub IsRead : Arena → Type 0
IsRead o = Below o.cells.now o.mark

-- the position that was answered, where there was room
abbrev pub term_reply : Result TermPos Full → Option ℕ
term_reply (Ok t) = Some t.0
term_reply (Err e) = None

abbrev pub type_reply : Result TypePos Full → Option ℕ
type_reply (Ok t) = Some t.0
type_reply (Err e) = None

abbrev pub node_reply : Result ℕ Full → Option ℕ
node_reply (Ok p) = Some p
node_reply (Err e) = None

-- where a search ends, as the code answers it
abbrev pub spot : Place ℕ → Option ℕ
spot none = None
spot (some p) = Some p

-- with the mark m afterwards
abbrev pub reply_at : ℕ → Option ℕ → Reply
reply_at m (Some p) = built m p
reply_at m None = full

-- the contract of every builder: the step F came from the arena o to the arena n, in the same cells. Where there was no room n is an arena still,
-- and its mark is not below the old one.
pub record Builds (F : Nodes → Out) (o : Arena) (r : Option ℕ) (n : Arena) : Type 0 where
  pub same : n.cells.ghost_name ≡ o.cells.ghost_name
  pub did : Did F o.cells.now o.mark (reply_at n.mark r) n.cells.now
  pub stopped : r ≡ None → Formed n × (o.mark ≤ n.mark)
