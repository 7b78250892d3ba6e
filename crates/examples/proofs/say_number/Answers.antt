-- The digits stand within the lent bytes.
use Rattle.std.proofs.Common.{arith}
use Rattle.codec.proofs.Putting.{puts_inside, puts_taken}
use Rattle.examples.proofs.say_number.Goals as goal

pub slice_bounds-text-end : goal.slice_bounds-text-end
slice_bounds-text-end g c = puts_inside (omega arith) c.write_decimal-end.ensures

pub slice_bounds-write_all-end-2 : goal.slice_bounds-write_all-end-2
slice_bounds-write_all-end-2 g c = puts_taken (omega arith) c.write_decimal-end.ensures
