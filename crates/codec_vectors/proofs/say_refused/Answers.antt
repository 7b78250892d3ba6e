-- The line stands within the lent bytes.
use Rattle.std.proofs.Common.{arith}
use Rattle.codec.proofs.Putting.{puts_inside, puts_taken}
use Rattle.codec_vectors.proofs.say_refused.Goals as goal

pub slice_bounds-line-end : goal.slice_bounds-line-end
slice_bounds-line-end g c = puts_inside (omega arith) c.write_refused-n.ensures

pub slice_bounds-write_all-end : goal.slice_bounds-write_all-end
slice_bounds-write_all-end g c = puts_taken (omega arith) c.write_refused-n.ensures
