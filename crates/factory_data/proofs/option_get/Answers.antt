use mathlib.Core.Path.{sym, ap, ◌∙◌}
use Rattle.arena.specs.Nodes.{Nodes, elem_at}
use borrow.Author.Tests.{eq-eqb, ne_eqb}
use Rattle.nodes.proofs.Steps.{builds_here, builds_as}
use Rattle.factory.specs.SetSteps.{option_get}
use Rattle.factory_data.proofs.option_get.Goals as goal

pub returns-then-kind_of-eq19 : goal.returns-then-kind_of-eq19
unfolding option_get
returns-then-kind_of-eq19 c =
    builds_as (builds_here c.args.arena.now c.requires.arena c.arg_of.result) (rw (eq-eqb _ _ (sym c.kind_of.ensures ∙ c.if-kind_of-eq19.true), c.arg_of.ensures))

pub returns : goal.returns
unfolding option_get
returns c =
    builds_as c.app1.ensures (rw (ne_eqb _ _ (λ e. c.if-kind_of-eq19.false (c.kind_of.ensures ∙ e)), c.elem_of-ty.ensures ∙ ap (λ (a : Nodes). elem_at a c.args.t.0) c.view.ensures))
