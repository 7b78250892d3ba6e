use mathlib.Core.Path.{sym, ap, ◌∙◌}
use Rattle.arena.specs.Nodes.{Nodes}
use Rattle.factory.specs.Core.{opposites}
use Rattle.factory_core.proofs.decided.Goals as goal

pub returns-then-eq : goal.returns-then-eq
returns-then-eq c = rw (sym c.eq.ensures ∙ c.if-eq.true)

pub returns-then-eq-2 : goal.returns-then-eq-2
returns-then-eq-2 c = rw (sym c.eq.ensures ∙ c.if-eq.false, sym c.eq-2.ensures ∙ c.if-eq-2.true)

pub returns : goal.returns
returns c =
    rw (sym c.eq.ensures ∙ c.if-eq.false, sym c.eq-2.ensures ∙ c.if-eq-2.false) (c.opposites.ensures ∙ ap (λ (a : Nodes). opposites a c.args.t.0 c.args.u.0) c.view.ensures)
