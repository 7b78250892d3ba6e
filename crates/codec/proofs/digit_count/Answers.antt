use Rattle.codec.proofs.Turns.{count_more, count_end}
use Rattle.codec.proofs.digit_count.Goals as goal

pub loop-rest-preserved : goal.loop-rest-preserved
loop-rest-preserved c = count_more c.requires c.loop-rest-test.true c.loop-rest.invariant

pub returns : goal.returns
returns c = count_end c.loop-rest-test.false c.loop-rest.invariant
