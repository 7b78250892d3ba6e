use mathlib.Core.Path.{ap}
use lib.Dec.{leb}
use Rattle.arena.proofs.cells.View.is_term.Goals as goal

pub returns : goal.returns
returns c = ap (leb 16) c.kind_at.ensures
