-- The text stays within its room.
use Rattle.std.proofs.Common.{◌≤◌}
use Rattle.cells.proofs.say_cells.Given as goal

abbrev pub invariant-loop-cell : goal.invariant-loop-cell
invariant-loop-cell g l = l.end ≤ 4096
