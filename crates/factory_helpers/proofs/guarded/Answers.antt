use borrow.Author.Tests.{eq-eqb, ne_eqb}
use mathlib.Core.Path.{sym, ap, ◌∙◌}
use Rattle.factory.specs.Helpers.{guarded}
use Rattle.factory.proofs.Calls.{ready_wf}
use Rattle.factory.proofs.Operands.{type_pos}
use Rattle.arena.specs.Nodes.{kind_at}
use Rattle.nodes.proofs.Steps.{builds_as}
use Rattle.factory_helpers.proofs.guarded.Goals as goal

pub kind_of-requires : goal.kind_of-requires
kind_of-requires c = record { below = c.requires.arena.below; bound = rw c.type_of-ty.ensures (type_pos (ready_wf c.requires) c.args.t.0 c.requires.fit.1) }

pub none_or-requires : goal.none_or-requires
none_or-requires c = record { arena = c.requires.arena; fit = (c.requires.fit.0, record { isterm = c.requires.fit.1; sort = ap (kind_at _) (sym c.type_of-ty.ensures) ∙ sym c.kind_of.ensures ∙ c.if-kind_of-eq3.true }) }

pub returns-then-kind_of-eq3 : goal.returns-then-kind_of-eq3
unfolding guarded
returns-then-kind_of-eq3 c = builds_as c.none_or.ensures (rw (sym c.type_of-ty.ensures, eq-eqb _ _ (sym c.kind_of.ensures ∙ c.if-kind_of-eq3.true)))

pub returns : goal.returns
unfolding guarded
returns c = builds_as c.if_false.ensures (rw (sym c.type_of-ty.ensures, ne_eqb _ _ (λ e. c.if-kind_of-eq3.false (c.kind_of.ensures ∙ e))))
