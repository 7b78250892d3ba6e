use mathlib.Core.Path.{sym, ◌∙◌}
use borrow.Author.Tests.{eq-eqb, ne_eqb}
use Rattle.factory.specs.Core.{opposites}
use Rattle.factory_core.proofs.opposites.Goals as goal

pub returns-then-kind_of-eq120 : goal.returns-then-kind_of-eq120
unfolding opposites
returns-then-kind_of-eq120 c =
    rw (eq-eqb _ _ (sym c.kind_of.ensures ∙ c.if-kind_of-eq120.true), c.arg_of.ensures)

pub returns-then-kind_of-eq120-2 : goal.returns-then-kind_of-eq120-2
unfolding opposites
returns-then-kind_of-eq120-2 c =
    rw (ne_eqb _ _ (λ e. c.if-kind_of-eq120.false (c.kind_of.ensures ∙ e)), eq-eqb _ _ (sym c.kind_of-2.ensures ∙ c.if-kind_of-eq120-2.true), c.arg_of-then-kind_of-eq120-2.ensures)

pub returns : goal.returns
unfolding opposites
returns c =
    rw (ne_eqb _ _ (λ e. c.if-kind_of-eq120.false (c.kind_of.ensures ∙ e)), ne_eqb _ _ (λ e. c.if-kind_of-eq120-2.false (c.kind_of-2.ensures ∙ e)))
