use Rattle.std.proofs.Common.{◌-◌, ◌≤◌}
use Rattle.arena_depth.proofs.terms.Given as goal

abbrev pub invariant-loop-at : goal.invariant-loop-at
invariant-loop-at l = (l.fn.from ≤ l.at) × (l.at ≤ l.room)

abbrev pub decreases-loop-at : goal.decreases-loop-at
decreases-loop-at l = l.room - l.at
