use Rattle.arena.proofs.Runs.{all_get}
use Rattle.refusals.proofs.first_misfits.Goals as goal

pub misfits-requires : goal.misfits-requires
misfits-requires c =
    all_get _ _ c.requires.each 0 c.requires.many
