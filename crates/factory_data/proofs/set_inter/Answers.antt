use borrow.Author.Tests.{eqb-true}
use mathlib.Core.Path.{sym, ◌∙◌}
use Rattle.factory.specs.SetSteps.{set_inter}
use Rattle.arena.proofs.Bools.{and_l}
use Rattle.nodes.proofs.Steps.{builds_here, builds_as}
use Rattle.factory_data.proofs.set_inter.Goals as goal

pub returns-then-eq : goal.returns-then-eq
unfolding set_inter
returns-then-eq c = builds_as (builds_here c.args.arena.now c.requires.arena c.args.s.0) (rw (sym c.eq.ensures ∙ c.if-eq.true))

pub returns-then-is_empty_set : goal.returns-then-is_empty_set
unfolding set_inter
returns-then-is_empty_set c = builds_as (builds_here c.args.arena.now c.requires.arena c.args.s.0) (rw (sym c.eq.ensures ∙ c.if-eq.false, sym c.is_empty_set.ensures ∙ c.if-is_empty_set.true))

pub returns-then-is_empty_set-2 : goal.returns-then-is_empty_set-2
unfolding set_inter
returns-then-is_empty_set-2 c = builds_as (builds_here c.args.arena.now c.requires.arena c.args.t.0) (rw (sym c.eq.ensures ∙ c.if-eq.false, sym c.is_empty_set.ensures ∙ c.if-is_empty_set.false, sym c.is_empty_set-2.ensures ∙ c.if-is_empty_set-2.true))

pub inter_of-requires : goal.inter_of-requires
inter_of-requires c = record { arena = c.requires.arena; fit = (eqb-true _ _ (and_l _ _ (sym c.both_sets.ensures ∙ c.if-both_sets.true)), c.requires.fit.1) }

pub returns-then-both_sets : goal.returns-then-both_sets
unfolding set_inter
returns-then-both_sets c = builds_as c.inter_of.ensures (rw (sym c.eq.ensures ∙ c.if-eq.false, sym c.is_empty_set.ensures ∙ c.if-is_empty_set.false, sym c.is_empty_set-2.ensures ∙ c.if-is_empty_set-2.false, sym c.both_sets.ensures ∙ c.if-both_sets.true))

pub returns : goal.returns
unfolding set_inter
returns c = builds_as c.app2.ensures (rw (sym c.eq.ensures ∙ c.if-eq.false, sym c.is_empty_set.ensures ∙ c.if-is_empty_set.false, sym c.is_empty_set-2.ensures ∙ c.if-is_empty_set-2.false, sym c.both_sets.ensures ∙ c.if-both_sets.false, c.type_of-ty.ensures))
