use Rattle.table.proofs.Suits.{type_pos}
use Rattle.refusals.proofs.no_member.Goals as goal

pub arg_of-elem-requires : goal.arg_of-elem-requires
arg_of-elem-requires c =
    rw c.type_of-set.ensures (type_pos c.args.nodes.now.below _ c.requires.y_value)

pub kind_of-requires : goal.kind_of-requires
kind_of-requires c =
    rw c.type_of-set.ensures (type_pos c.args.nodes.now.below _ c.requires.y_value)
