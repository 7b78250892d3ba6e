use Rattle.std.proofs.Common.{arith}
use Rattle.codec.proofs.Putting.{puts_inside}
use Rattle.cells.proofs.say_cells.Goals as goal

pub loop-cell-preserved : goal.loop-cell-preserved
loop-cell-preserved g c = let inside = puts_inside (omega arith) c.write_decimal-end.ensures in omega arith
