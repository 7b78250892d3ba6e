use mathlib.Core.Path.{refl, ◌∙◌}
use borrow.Author.Tests.{lt-leb}
use Rattle.arena.proofs.Starts.{no-type, type_if}
use Rattle.refusals.proofs.fits_sort.Goals as goal

pub returns-then-kind-ge1 : goal.returns-then-kind-ge1
returns-then-kind-ge1 c = rw c.if-typed.true (type_if refl c.if-kind-ge1.true)

pub returns-else-kind-ge1 : goal.returns-else-kind-ge1
returns-else-kind-ge1 c = rw c.if-typed.true (lt-leb 1 _ c.if-kind-ge1.false ∙ no-type refl c.if-kind-ge1.false)
