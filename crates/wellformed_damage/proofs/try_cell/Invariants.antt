use Rattle.std.proofs.Common.{◌*◌, ◌≤◌}
use Rattle.wellformed_damage.proofs.try_cell.Given as goal

abbrev pub invariant-loop-v : goal.invariant-loop-v
invariant-loop-v g l = (l.count ≤ l.v) × (l.sum ≤ 160 * l.v)
