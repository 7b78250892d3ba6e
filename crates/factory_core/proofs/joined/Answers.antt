use mathlib.Core.Path.{sym, ap₂, ◌∙◌}
use mathlib.Core.Bool.{◌||◌}
use Rattle.nodes.proofs.Steps.{builds_here, builds_as}
use Rattle.factory.specs.Core.{junction}
use Rattle.factory_core.proofs.joined.Goals as goal

pub returns-then-eq : goal.returns-then-eq
unfolding junction
returns-then-eq c =
    builds_as (builds_here c.args.arena.now c.requires.ready.arena c.args.t.0) (rw (ap₂ (λ a b. a || b) (sym c.eq.ensures) (sym c.eq-2.ensures) ∙ c.if-eq.true))

pub returns-then-eq-2 : goal.returns-then-eq-2
unfolding junction
returns-then-eq-2 c =
    builds_as (builds_here c.args.arena.now c.requires.ready.arena c.args.u.0) (rw (ap₂ (λ a b. a || b) (sym c.eq.ensures) (sym c.eq-2.ensures) ∙ c.if-eq.false, sym c.eq-3.ensures ∙ c.if-eq-2.true))

pub returns-then-decided : goal.returns-then-decided
unfolding junction
returns-then-decided c =
    builds_as (builds_here c.args.arena.now c.requires.ready.arena c.args.other.0)
    (rw (ap₂ (λ a b. a || b) (sym c.eq.ensures) (sym c.eq-2.ensures) ∙ c.if-eq.false, sym c.eq-3.ensures ∙ c.if-eq-2.false, sym c.decided.ensures ∙ c.if-decided.true))

pub returns : goal.returns
unfolding junction
returns c =
    builds_as c.app2.ensures
    (rw (ap₂ (λ a b. a || b) (sym c.eq.ensures) (sym c.eq-2.ensures) ∙ c.if-eq.false, sym c.eq-3.ensures ∙ c.if-eq-2.false, sym c.decided.ensures ∙ c.if-decided.false))
