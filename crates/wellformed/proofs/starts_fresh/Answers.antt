use Rattle.std.proofs.Common.{◌∙◌}
use Rattle.arena.specs.Cells.{cells}
use Rattle.runs.proofs.Same.{pointwise_turned}
use Rattle.wellformed.proofs.starts_fresh.Goals as goal

pub returns : goal.returns
unfolding cells
returns c = c.starts_with.ensures.value ∙ pointwise_turned _ _
