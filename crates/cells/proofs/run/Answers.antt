use Rattle.std.proofs.Common.{arith}
use Rattle.arena.proofs.FreshCells.{made_arena, fresh_some, fresh_at}
use Rattle.cells.proofs.run.Goals as goal

pub unwrap-mark-requires : goal.unwrap-mark-requires
unwrap-mark-requires g c = fresh_some _ _ c.fresh.ensures.answer (omega arith) (omega arith)

pub walk-requires : goal.walk-requires
walk-requires g c = made_arena (fresh_at _ c.unwrap-mark.ensures c.fresh.ensures.answer c.fresh.ensures.left) (omega arith) (omega arith)
