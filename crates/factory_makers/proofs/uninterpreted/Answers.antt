use Rattle.factory.specs.Core.{uninterpreted}
use Rattle.factory_makers.proofs.uninterpreted.Goals as goal

pub returns : goal.returns
unfolding uninterpreted
returns c = c.term_node.ensures
