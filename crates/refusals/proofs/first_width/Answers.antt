use Rattle.arena.proofs.Runs.{all_get}
use Rattle.arena.proofs.Chain.{term_pos}
use Rattle.table.proofs.Suits.{type_pos}
use Rattle.refusals.proofs.first_width.Goals as goal

pub type_of-ty-requires : goal.type_of-ty-requires
type_of-ty-requires c =
    term_pos _ _ (all_get _ _ c.requires.each 0 c.requires.many)

pub par_of-requires : goal.par_of-requires
par_of-requires c =
    rw c.type_of-ty.ensures (type_pos c.args.nodes.now.below _ (all_get _ _ c.requires.each 0 c.requires.many))
