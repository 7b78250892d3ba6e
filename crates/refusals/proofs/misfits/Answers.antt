use Rattle.table.proofs.Suits.{type_pos}
use Rattle.refusals.proofs.misfits.Goals as goal

pub kind_of-requires : goal.kind_of-requires
kind_of-requires c =
    rw c.type_of-ty.ensures (type_pos c.args.nodes.now.below _ c.requires)
