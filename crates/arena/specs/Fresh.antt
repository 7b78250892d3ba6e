-- Lent cells made fresh, and cleared from a mark on.
use Rattle.std.specs.Prelude.{◌≡◌, ℕ, ◌-◌, cond, List, ◌++◌, length, take, replicate, Option, Some, None}
use Rattle.arena.specs.Lists.{within}
use Rattle.arena.specs.Nodes.{mark, fresh}
use Rattle.arena.specs.Cells.{padded}
use Rattle.arena.specs.WellFormed.{fewest, most}

-- the cells below m, and zeros
abbrev pub cleared : List ℕ → ℕ → List ℕ
cleared c m = take m c ++ replicate (length c - m) 0

-- a length that is allowed gives the mark and the cells of a fresh arena; else the answer is 0 and nothing changes
unfoldable pub fresh_mark : List ℕ → ℕ
fresh_mark c = cond (within fewest most (length c)) (mark fresh) 0

-- the mark, as the code answers it
unfoldable pub fresh_answer : List ℕ → Option ℕ
fresh_answer c = cond (within fewest most (length c)) (Some (mark fresh)) None

unfoldable pub fresh_cells : List ℕ → List ℕ
fresh_cells c = cond (within fewest most (length c)) (padded (length c) fresh) c

pub record Freshened (c : List ℕ) (r : ℕ) (c' : List ℕ) : Type 0 where
  pub marked : r ≡ fresh_mark c
  pub left : c' ≡ fresh_cells c
