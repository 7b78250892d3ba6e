use Prim.Native.Nat.{◌*◌}
use lib.ListN.{length, drop, take}
use mathlib.Core.List.{◌++◌}
use mathlib.Core.Path.{◌≡◌}
use Rattle.arena.specs.Lists.{odds}
use Rattle.arena.specs.Runs.{Holds}
use Rattle.compiled.proofs.listed_options.Given as goal

abbrev pub invariant-loop-i : goal.invariant-loop-i
invariant-loop-i l =
    (length l.held ≡ length l.initial.held) × Holds (take l.i l.held) l.initial.held l.i l.held × (odds l.list ≡ take l.i l.held ++ odds (drop (2 * l.i) l.list))
