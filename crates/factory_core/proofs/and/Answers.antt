use Rattle.factory.specs.Core.{and_t}
use Rattle.factory_core.proofs.and.Goals as goal

pub returns : goal.returns
unfolding and_t
returns c = c.joined.ensures
