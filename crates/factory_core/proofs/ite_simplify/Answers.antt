use mathlib.Core.Path.{sym, ap₂, ◌∙◌}
use mathlib.Core.Bool.{true, false, ◌||◌, ◌&&◌}
use borrow.Author.Tests.{eqb-true}
use Rattle.nodes.proofs.Steps.{builds_here, builds_as}
use Rattle.factory.specs.Core.{ite_simplify}
use Rattle.factory.proofs.Calls.{ready_wf}
use Rattle.factory.proofs.Operands.{bool_arm, bool_arm'}
use Rattle.factory_core.proofs.ite_simplify.Goals as goal

pub returns-then-eq : goal.returns-then-eq
unfolding ite_simplify
returns-then-eq c =
    builds_as (builds_here c.args.arena.now c.requires.arena c.args.t.0) (rw (ap₂ (λ a b. a || b) (sym c.eq.ensures) (sym c.eq-2.ensures) ∙ c.if-eq.true))

pub returns-then-eq-2 : goal.returns-then-eq-2
unfolding ite_simplify
returns-then-eq-2 c =
    builds_as (builds_here c.args.arena.now c.requires.arena c.args.u.0) (rw (ap₂ (λ a b. a || b) (sym c.eq.ensures) (sym c.eq-2.ensures) ∙ c.if-eq.false, sym c.eq-3.ensures ∙ c.if-eq-2.true))

pub returns-then-eq-3 : goal.returns-then-eq-3
unfolding ite_simplify
returns-then-eq-3 c =
    builds_as (builds_here c.args.arena.now c.requires.arena c.args.g.0) (rw (ap₂ (λ a b. a || b) (sym c.eq.ensures) (sym c.eq-2.ensures) ∙ c.if-eq.false, sym c.eq-3.ensures ∙ c.if-eq-2.false, ap₂ (λ a b. a && b) (sym c.eq-4.ensures) (sym c.eq-5.ensures) ∙ c.if-eq-3.true))

pub returns-then-eq-4 : goal.returns-then-eq-4
unfolding ite_simplify
returns-then-eq-4 c =
    builds_as c.not.ensures (rw (ap₂ (λ a b. a || b) (sym c.eq.ensures) (sym c.eq-2.ensures) ∙ c.if-eq.false, sym c.eq-3.ensures ∙ c.if-eq-2.false, ap₂ (λ a b. a && b) (sym c.eq-4.ensures) (sym c.eq-5.ensures) ∙ c.if-eq-3.false, ap₂ (λ a b. a && b) (sym c.eq-6.ensures) (sym c.eq-7.ensures) ∙ c.if-eq-4.true))

pub and-requires : goal.and-requires
and-requires c =
    record { arena = c.requires.arena; fit = (c.requires.fit.0, bool_arm' (ready_wf c.requires) false c.args.t.0 c.args.u.0 (eqb-true _ _ (sym c.eq-8.ensures ∙ c.if-eq-5.true)) c.requires.fit.1) }

pub returns-then-eq-5 : goal.returns-then-eq-5
unfolding ite_simplify
returns-then-eq-5 c =
    builds_as c.and.ensures (rw (ap₂ (λ a b. a || b) (sym c.eq.ensures) (sym c.eq-2.ensures) ∙ c.if-eq.false, sym c.eq-3.ensures ∙ c.if-eq-2.false, ap₂ (λ a b. a && b) (sym c.eq-4.ensures) (sym c.eq-5.ensures) ∙ c.if-eq-3.false, ap₂ (λ a b. a && b) (sym c.eq-6.ensures) (sym c.eq-7.ensures) ∙ c.if-eq-4.false, sym c.eq-8.ensures ∙ c.if-eq-5.true))

pub or-requires : goal.or-requires
or-requires c =
    record { arena = c.requires.arena; fit = (c.requires.fit.0, bool_arm (ready_wf c.requires) true c.args.t.0 c.args.u.0 (eqb-true _ _ (sym c.eq-9.ensures ∙ c.if-eq-6.true)) c.requires.fit.1) }

pub returns-then-eq-6 : goal.returns-then-eq-6
unfolding ite_simplify
returns-then-eq-6 c =
    builds_as c.or.ensures (rw (ap₂ (λ a b. a || b) (sym c.eq.ensures) (sym c.eq-2.ensures) ∙ c.if-eq.false, sym c.eq-3.ensures ∙ c.if-eq-2.false, ap₂ (λ a b. a && b) (sym c.eq-4.ensures) (sym c.eq-5.ensures) ∙ c.if-eq-3.false, ap₂ (λ a b. a && b) (sym c.eq-6.ensures) (sym c.eq-7.ensures) ∙ c.if-eq-4.false, sym c.eq-8.ensures ∙ c.if-eq-5.false, sym c.eq-9.ensures ∙ c.if-eq-6.true))

pub returns : goal.returns
unfolding ite_simplify
returns c =
    builds_as c.term_node.ensures (rw (ap₂ (λ a b. a || b) (sym c.eq.ensures) (sym c.eq-2.ensures) ∙ c.if-eq.false, sym c.eq-3.ensures ∙ c.if-eq-2.false, ap₂ (λ a b. a && b) (sym c.eq-4.ensures) (sym c.eq-5.ensures) ∙ c.if-eq-3.false, ap₂ (λ a b. a && b) (sym c.eq-6.ensures) (sym c.eq-7.ensures) ∙ c.if-eq-4.false, sym c.eq-8.ensures ∙ c.if-eq-5.false, sym c.eq-9.ensures ∙ c.if-eq-6.false, c.type_of-ty.ensures))
