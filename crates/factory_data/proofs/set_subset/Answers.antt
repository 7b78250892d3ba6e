use mathlib.Core.Path.{sym, ◌∙◌}
use Rattle.factory.specs.SetSteps.{set_subset}
use Rattle.nodes.proofs.Steps.{builds_here, builds_as}
use Rattle.factory_data.proofs.set_subset.Goals as goal

pub returns-then-eq : goal.returns-then-eq
unfolding set_subset
returns-then-eq c = builds_as (builds_here c.args.arena.now c.requires.arena 8) (rw (sym c.eq.ensures ∙ c.if-eq.true))

pub returns-then-is_empty_set : goal.returns-then-is_empty_set
unfolding set_subset
returns-then-is_empty_set c = builds_as (builds_here c.args.arena.now c.requires.arena 8) (rw (sym c.eq.ensures ∙ c.if-eq.false, sym c.is_empty_set.ensures ∙ c.if-is_empty_set.true))

pub returns-then-both_sets : goal.returns-then-both_sets
unfolding set_subset
returns-then-both_sets c =
    builds_as (builds_here c.args.arena.now c.requires.arena c.bool_at.result.0)
    (rw (sym c.eq.ensures ∙ c.if-eq.false, sym c.is_empty_set.ensures ∙ c.if-is_empty_set.false, sym c.both_sets.ensures ∙ c.if-both_sets.true, c.bool_at.ensures, c.contains_all.ensures, c.members_of-left.ensures, c.members_of-right.ensures))

pub returns : goal.returns
unfolding set_subset
returns c = builds_as c.app2.ensures (rw (sym c.eq.ensures ∙ c.if-eq.false, sym c.is_empty_set.ensures ∙ c.if-is_empty_set.false, sym c.both_sets.ensures ∙ c.if-both_sets.false))
