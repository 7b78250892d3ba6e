use Rattle.arena.proofs.FreshCells.{freshened}
use Rattle.tameswulk.proofs.tameswulk_fresh.Goals as goal

pub returns : goal.returns
returns c = rw c.unwrap_or.ensures (freshened _ c.fresh.ensures.answer c.fresh.ensures.left)
