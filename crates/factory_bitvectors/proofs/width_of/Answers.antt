use Rattle.factory.proofs.Calls.{ready_wf}
use Rattle.factory.proofs.Operands.{type_pos, is_width}
use Rattle.factory_bitvectors.proofs.width_of.Goals as goal

pub par_of-requires : goal.par_of-requires
par_of-requires c =
    record { below = c.requires.arena.below; bound = rw c.type_of-ty.ensures (type_pos (ready_wf c.requires) c.args.t.0 c.requires.fit.isterm) }

pub invariant_of-result : goal.invariant_of-result
invariant_of-result c = record {
  is_width = rw (c.par_of.ensures, c.type_of-ty.ensures) (is_width (ready_wf c.requires) c.args.t.0 c.requires.fit);
}

pub returns : goal.returns
returns c = rw (← c.type_of-ty.ensures) c.par_of.ensures
