use Rattle.std.proofs.Common.{◌∙◌}
use borrow.Author.Tests.{le-leb}
use Rattle.arena.proofs.Widths.{wide_fits, shift_fits}
use Rattle.node_tests.proofs.tests.fits_width.Goals as goal

pub returns-then-w-ge64 : goal.returns-then-w-ge64
returns-then-w-ge64 c = le-leb _ _ c.if-w-ge64.true ∙ wide_fits c.args.v c.args.w c.ranges.v.fits c.if-w-ge64.true

pub returns-else-w-ge64 : goal.returns-else-w-ge64
returns-else-w-ge64 c = shift_fits c.args.v c.args.w
