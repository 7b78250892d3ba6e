-- What the test lets through is an arena.
use Rattle.std.proofs.Common.{sym, ◌∙◌}
use Rattle.arena.proofs.Formed.{formed-arena}
use Rattle.arena_depth.proofs.answer.Goals as goal

pub invariant_of-nodes : goal.invariant_of-nodes
invariant_of-nodes c = record { below = (formed-arena _ _ (sym c.is_formed.ensures ∙ c.if-not-is_formed.false)).below }
