use mathlib.Core.Path.{◌∙◌}
use borrow.Author.Tests.{lt-leb}
use Rattle.arena.proofs.Starts.{no-type, type_if}
use Rattle.arena.proofs.cells.View.is_type.Goals as goal

pub returns-then-kind-ge1 : goal.returns-then-kind-ge1
returns-then-kind-ge1 c = type_if c.kind_at-kind.ensures c.if-kind-ge1.true

pub returns-else-kind-ge1 : goal.returns-else-kind-ge1
returns-else-kind-ge1 c = lt-leb 1 _ c.if-kind-ge1.false ∙ no-type c.kind_at-kind.ensures c.if-kind-ge1.false
