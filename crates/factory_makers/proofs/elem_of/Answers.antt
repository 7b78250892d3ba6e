use Rattle.arena.proofs.Formed.{wf}
use Rattle.factory.proofs.Operands.{type_pos}
use Rattle.factory_makers.proofs.elem_of.Goals as goal

pub arg_of-requires : goal.arg_of-requires
arg_of-requires c = rw c.type_of-ty.ensures (type_pos (wf c.args.nodes.now.below) c.args.t.0 c.requires)

pub returns : goal.returns
returns c = rw (← c.type_of-ty.ensures) c.arg_of.ensures
