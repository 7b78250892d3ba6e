use mathlib.Core.Path.{◌≡◌, sym, ap, ◌∙◌}
use mathlib.Core.Bool.{false, ◌&&◌}
use Prim.Native.Nat.{ℕ}
use borrow.Author.Tests.{eqb-true}
use Rattle.arena.specs.Nodes.{Nodes}
use Rattle.arena.specs.Walks.{is_lit}
use Rattle.nodes.proofs.Steps.{builds_here, builds_as}
use Rattle.factory.specs.Core.{eq_simplify}
use Rattle.factory.proofs.Calls.{ready_wf}
use Rattle.factory.proofs.Operands.{bool_arm, bool_arm'}
use Rattle.factory_core.proofs.eq_simplify.Goals as goal

-- both are literals in the arena where they are in its view
seen_lits : {v a : Nodes} (t u : ℕ) → v ≡ a → (is_lit a t && is_lit a u) ≡ (is_lit v t && is_lit v u)
seen_lits t u e = sym (ap (λ (a : Nodes). is_lit a t && is_lit a u) e)

pub returns-then-eq : goal.returns-then-eq
unfolding eq_simplify
returns-then-eq c =
    builds_as (builds_here c.args.arena.now c.requires.arena 8) (rw (sym c.eq.ensures ∙ c.if-eq.true))

pub returns-then-both_literal : goal.returns-then-both_literal
unfolding eq_simplify
returns-then-both_literal c =
    builds_as (builds_here c.args.arena.now c.requires.arena 4) (rw (sym c.eq.ensures ∙ c.if-eq.false, seen_lits _ _ c.view.ensures ∙ sym c.both_literal.ensures ∙ c.if-both_literal.true))

pub returns-then-eq-2 : goal.returns-then-eq-2
unfolding eq_simplify
returns-then-eq-2 c =
    builds_as (builds_here c.args.arena.now c.requires.arena c.args.u.0) (rw (sym c.eq.ensures ∙ c.if-eq.false, seen_lits _ _ c.view.ensures ∙ sym c.both_literal.ensures ∙ c.if-both_literal.false, sym c.eq-2.ensures ∙ c.if-eq-2.true))

pub returns-then-eq-3 : goal.returns-then-eq-3
unfolding eq_simplify
returns-then-eq-3 c =
    builds_as (builds_here c.args.arena.now c.requires.arena c.args.t.0) (rw (sym c.eq.ensures ∙ c.if-eq.false, seen_lits _ _ c.view.ensures ∙ sym c.both_literal.ensures ∙ c.if-both_literal.false, sym c.eq-2.ensures ∙ c.if-eq-2.false, sym c.eq-3.ensures ∙ c.if-eq-3.true))

pub not-requires : goal.not-requires
not-requires c =
    record { arena = c.requires.arena; fit = bool_arm (ready_wf c.requires) false c.args.t.0 c.args.u.0 (eqb-true _ _ (sym c.eq-4.ensures ∙ c.if-eq-4.true)) c.requires.fit }

pub returns-then-eq-4 : goal.returns-then-eq-4
unfolding eq_simplify
returns-then-eq-4 c =
    builds_as c.not.ensures (rw (sym c.eq.ensures ∙ c.if-eq.false, seen_lits _ _ c.view.ensures ∙ sym c.both_literal.ensures ∙ c.if-both_literal.false, sym c.eq-2.ensures ∙ c.if-eq-2.false, sym c.eq-3.ensures ∙ c.if-eq-3.false, sym c.eq-4.ensures ∙ c.if-eq-4.true))

pub not-requires-then-eq-5 : goal.not-requires-then-eq-5
not-requires-then-eq-5 c =
    record { arena = c.requires.arena; fit = bool_arm' (ready_wf c.requires) false c.args.t.0 c.args.u.0 (eqb-true _ _ (sym c.eq-5.ensures ∙ c.if-eq-5.true)) c.requires.fit }

pub returns-then-eq-5 : goal.returns-then-eq-5
unfolding eq_simplify
returns-then-eq-5 c =
    builds_as c.not-then-eq-5.ensures (rw (sym c.eq.ensures ∙ c.if-eq.false, seen_lits _ _ c.view.ensures ∙ sym c.both_literal.ensures ∙ c.if-both_literal.false, sym c.eq-2.ensures ∙ c.if-eq-2.false, sym c.eq-3.ensures ∙ c.if-eq-3.false, sym c.eq-4.ensures ∙ c.if-eq-4.false, sym c.eq-5.ensures ∙ c.if-eq-5.true))

pub returns : goal.returns
unfolding eq_simplify
returns c =
    builds_as c.app2.ensures (rw (sym c.eq.ensures ∙ c.if-eq.false, seen_lits _ _ c.view.ensures ∙ sym c.both_literal.ensures ∙ c.if-both_literal.false, sym c.eq-2.ensures ∙ c.if-eq-2.false, sym c.eq-3.ensures ∙ c.if-eq-3.false, sym c.eq-4.ensures ∙ c.if-eq-4.false, sym c.eq-5.ensures ∙ c.if-eq-5.false))
