use mathlib.Core.Path.{sym, ◌∙◌}
use borrow.Author.Tests.{eq-eqb, ne_eqb}
use Rattle.nodes.proofs.Steps.{builds_here, builds_as}
use Rattle.factory.specs.Core.{not_t}
use Rattle.factory_core.proofs.not.Goals as goal

pub returns-then-eq : goal.returns-then-eq
unfolding not_t
returns-then-eq c =
    builds_as (builds_here c.args.arena.now c.requires.arena 4) (rw (sym c.eq.ensures ∙ c.if-eq.true))

pub returns-then-eq-2 : goal.returns-then-eq-2
unfolding not_t
returns-then-eq-2 c =
    builds_as (builds_here c.args.arena.now c.requires.arena 8) (rw (sym c.eq.ensures ∙ c.if-eq.false, sym c.eq-2.ensures ∙ c.if-eq-2.true))

pub returns-then-kind_of-eq120 : goal.returns-then-kind_of-eq120
unfolding not_t
returns-then-kind_of-eq120 c =
    builds_as (builds_here c.args.arena.now c.requires.arena c.arg_of.result)
    (rw (sym c.eq.ensures ∙ c.if-eq.false, sym c.eq-2.ensures ∙ c.if-eq-2.false, eq-eqb _ _ (sym c.kind_of.ensures ∙ c.if-kind_of-eq120.true), c.arg_of.ensures))

pub returns : goal.returns
unfolding not_t
returns c =
    builds_as c.app1.ensures
    (rw (sym c.eq.ensures ∙ c.if-eq.false, sym c.eq-2.ensures ∙ c.if-eq-2.false, ne_eqb _ _ (λ e. c.if-kind_of-eq120.false (c.kind_of.ensures ∙ e))))
