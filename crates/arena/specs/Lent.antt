-- What arrays lent to a walk say of an arena's nodes. Nodes are four cells apart or more, so that entry p / 4 is the own entry of a node at p.
use Rattle.std.specs.Prelude.{◌≡◌, Bool, true, false, List, ℕ, ◌+◌, ◌*◌, ◌/◌, ◌%◌, ◌≤◌, length, get_or}
use Rattle.arena.specs.Nodes.{Nodes, mark, kind_at}
use Rattle.arena.specs.Cells.{used, after}
use Rattle.arena.specs.WellFormed.{Below}

-- where nodes start: the entry is p % 4 + 1 for each start p
pub record Starts (a : Nodes) (f : List ℕ) : Type 0 where
  pub long : mark a ≤ 4 * length f
  pub yes : (p : ℕ) → 1 ≤ kind_at a p → get_or f (p / 4) 0 ≡ p % 4 + 1
  pub no : (p : ℕ) → get_or f (p / 4) 0 ≡ p % 4 + 1 → 1 ≤ kind_at a p

-- the cells below q are an arena, `f` says where its nodes start, and the cells of one more node stand at q
pub record Ready (c : List ℕ) (q : ℕ) (f : List ℕ) : Type 0 where
  pub below : Below c q
  pub starts : Starts (used c q) f
  pub here : after c q ≤ length c

-- what is sure: a node whose entry is true passes the test
pub record Sure (a : Nodes) (test : ℕ → Bool) (f : List Bool) : Type 0 where
  pub long : mark a ≤ 4 * length f
  pub holds : (p : ℕ) → 1 ≤ kind_at a p → get_or f (p / 4) false ≡ true → test p ≡ true
