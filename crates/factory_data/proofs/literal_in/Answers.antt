use borrow.Author.Tests.{eq-eqb, ne_eqb}
use mathlib.Core.Path.{sym, ap, ◌∙◌}
use mathlib.Core.Bool.{◌&&◌}
use Rattle.arena.specs.Nodes.{Nodes}
use Rattle.arena.specs.Walks.{is_lit}
use Rattle.factory_data.proofs.literal_in.Goals as goal

pub returns-then-kind_of-eq20 : goal.returns-then-kind_of-eq20
returns-then-kind_of-eq20 c = rw (eq-eqb _ _ (sym c.kind_of.ensures ∙ c.if-kind_of-eq20.true)) (c.both_literal.ensures ∙ ap (λ (a : Nodes). is_lit a c.args.t.0 && is_lit a c.args.s.0) c.view.ensures)

pub returns : goal.returns
returns c = rw (ne_eqb _ _ (λ e. c.if-kind_of-eq20.false (c.kind_of.ensures ∙ e)))
