use Rattle.factory.specs.Core.{or_t}
use Rattle.factory_core.proofs.or.Goals as goal

pub returns : goal.returns
unfolding or_t
returns c = c.joined.ensures
