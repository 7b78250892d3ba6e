use borrow.Author.Tests.{eq-eqb, ne_eqb}
use mathlib.Core.Path.{sym, ◌∙◌}
use Rattle.factory.proofs.Picks.{nil_length}
use Rattle.factory_data.proofs.is_empty_set.Goals as goal

pub returns-then-kind_of-eq20 : goal.returns-then-kind_of-eq20
returns-then-kind_of-eq20 c = rw (eq-eqb _ _ (sym c.kind_of.ensures ∙ c.if-kind_of-eq20.true), c.members_of.ensures) (nil_length _)

pub returns : goal.returns
returns c = rw (ne_eqb _ _ (λ e. c.if-kind_of-eq20.false (c.kind_of.ensures ∙ e)))
