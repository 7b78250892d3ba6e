use Rattle.table.proofs.Numbers.{takes_is}
use Rattle.refusals.proofs.takes_parameter.Goals as goal

pub returns : goal.returns
returns c = takes_is c.args.op c.requires
