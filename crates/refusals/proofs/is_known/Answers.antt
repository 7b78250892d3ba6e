use Rattle.table.proofs.Numbers.{known_is}
use Rattle.refusals.proofs.is_known.Goals as goal

pub returns : goal.returns
returns c = known_is c.args.op
