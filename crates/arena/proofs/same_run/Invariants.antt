use mathlib.Core.Path.{◌≡◌}
use lib.ListN.{drop}
use Rattle.arena.specs.Lists.{same_list}
use Rattle.arena.proofs.same_run.Given as goal

abbrev pub invariant-loop-i : goal.invariant-loop-i
invariant-loop-i l = same_list l.run l.other ≡ same_list (drop l.i l.run) (drop l.i l.other)
