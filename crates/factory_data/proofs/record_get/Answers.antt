use Rattle.std.specs.Prelude.{unwrap_or}
use Rattle.runs.proofs.Given.{given_or_0}
use mathlib.Core.Path.{ap, ◌∙◌}
use borrow.Author.Tests.{eq-eqb, ne_eqb}
use mathlib.Core.Path.{sym, ◌∙◌}
use Rattle.factory.specs.SetSteps.{record_get}
use Rattle.factory.proofs.Calls.{ready_wf}
use Rattle.factory.proofs.Operands.{type_pos}
use Rattle.nodes.proofs.Steps.{builds_here, builds_as}
use Rattle.factory_data.proofs.record_get.Goals as goal

pub returns-then-kind_of-eq21 : goal.returns-then-kind_of-eq21
unfolding record_get
returns-then-kind_of-eq21 c = builds_as (builds_here c.args.arena.now c.requires.arena c.unwrap_or.result) (rw (eq-eqb _ _ (sym c.kind_of.ensures ∙ c.if-kind_of-eq21.true), c.unwrap_or.ensures ∙ ap (λ o. unwrap_or o 0) c.field.ensures ∙ given_or_0 _ _, c.members_of-members.ensures))

pub members_of-requires : goal.members_of-requires
members_of-requires c = record { below = c.requires.arena.below; bound = rw c.type_of-of.ensures (type_pos (ready_wf c.requires) c.args.t.0 c.requires.fit) }

pub returns : goal.returns
unfolding record_get
returns c = builds_as c.term_node.ensures (rw (ne_eqb _ _ (λ e. c.if-kind_of-eq21.false (c.kind_of.ensures ∙ e)), c.unwrap_or-2.ensures ∙ ap (λ o. unwrap_or o 0) c.field-2.ensures ∙ given_or_0 _ _, c.members_of.ensures, c.type_of-of.ensures))
