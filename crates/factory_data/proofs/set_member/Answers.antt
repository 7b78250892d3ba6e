use mathlib.Core.Path.{sym, ◌∙◌}
use Rattle.factory.specs.SetSteps.{set_member}
use Rattle.nodes.proofs.Steps.{builds_here, builds_as}
use Rattle.factory_data.proofs.set_member.Goals as goal

pub returns-then-is_empty_set : goal.returns-then-is_empty_set
unfolding set_member
returns-then-is_empty_set c = builds_as (builds_here c.args.arena.now c.requires.arena 4) (rw (sym c.is_empty_set.ensures ∙ c.if-is_empty_set.true))

pub returns-then-literal_in : goal.returns-then-literal_in
unfolding set_member
returns-then-literal_in c =
    builds_as (builds_here c.args.arena.now c.requires.arena c.bool_at.result.0)
    (rw (sym c.is_empty_set.ensures ∙ c.if-is_empty_set.false, sym c.literal_in.ensures ∙ c.if-literal_in.true, c.bool_at.ensures, c.contains.ensures, c.members_of-members.ensures))

pub returns : goal.returns
unfolding set_member
returns c = builds_as c.app2.ensures (rw (sym c.is_empty_set.ensures ∙ c.if-is_empty_set.false, sym c.literal_in.ensures ∙ c.if-literal_in.false))
