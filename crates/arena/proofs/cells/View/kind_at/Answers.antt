use Rattle.arena.proofs.Starts.{first_kind}
use Rattle.arena.proofs.cells.View.kind_at.Goals as goal

pub kind_from-requires : goal.kind_from-requires
kind_from-requires c = first_kind c.args.self.now.below
