use Rattle.factory.proofs.Turns.{left-start, left-next, left-full, left_one, left_none, left_end}
use Rattle.factory_helpers.proofs.any_none.Goals as goal

pub loop-g-init : goal.loop-g-init
loop-g-init c = left-start c.args.gs.now c.requires

pub returns-in_err-acc : goal.returns-in_err-acc
returns-in_err-acc c = left-full (left_one c.args.gs.now c.loop-g.g-index c.loop-g-test.true c.loop-g.invariant) c.from_residual.result c.from_residual.ensures.0 c.in_err-acc.ensures

pub loop-g-preserved : goal.loop-g-preserved
loop-g-preserved c = left-next (left_one c.args.gs.now c.loop-g.g-index c.loop-g-test.true c.loop-g.invariant) c.in_ok-acc.ensures

pub returns : goal.returns
returns c = left_end (left_none c.args.gs.now c.loop-g.g-index c.loop-g-test.false c.loop-g.invariant)
