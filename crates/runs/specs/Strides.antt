-- Runs of numbers, one by one or in pairs.
use Rattle.std.specs.Prelude.{cond, List, ℕ, eqb}
use Rattle.arena.specs.Lists.{evens, odds}

-- what the fields of a run hold, or the whole run
abbrev pub held : ℕ → List ℕ → List ℕ
held step r = cond (eqb step 2) (odds r) r

-- its attributes, or the whole run
abbrev pub heads : ℕ → List ℕ → List ℕ
heads step r = cond (eqb step 2) (evens r) r
