-- The lines stand within the lent bytes.
use Rattle.std.proofs.Common.{sym, length-take-le}
use Rattle.script.proofs.Going.{ran-inside}
use Rattle.bench.proofs.main.Goals as goal

pub slice_bounds-out-end : goal.slice_bounds-out-end
slice_bounds-out-end c = ran-inside c.run-end.ensures

pub slice_bounds-write_all-end : goal.slice_bounds-write_all-end
slice_bounds-write_all-end c = sym (length-take-le _ _ (ran-inside c.run-end.ensures))
