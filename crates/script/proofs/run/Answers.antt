use mathlib.Core.Path.{refl}
use native.Mathlib.Omega.{arith}
use Rattle.arena.proofs.FreshCells.{fresh_some, fresh_at}
use Rattle.script.proofs.Going.{ran-long, ran-short, ready}
use Rattle.script.proofs.run.Goals as goal

pub returns-then-bytes-gt-LONGEST : goal.returns-then-bytes-gt-LONGEST
returns-then-bytes-gt-LONGEST c = ran-long c.if-bytes-gt-LONGEST.true refl c.write_refused.ensures

pub unwrap-mark-requires : goal.unwrap-mark-requires
unwrap-mark-requires c = fresh_some _ _ c.fresh.ensures.answer (omega (arith, c.requires.0)) (omega (arith, c.requires.0))

pub walk-requires : goal.walk-requires
walk-requires c = ready c.if-bytes-gt-LONGEST.false c.requires.0 c.fresh.auto.cells c.requires.1 (fresh_at _ c.unwrap-mark.ensures c.fresh.ensures.answer c.fresh.ensures.left)

pub returns : goal.returns
returns c = ran-short c.if-bytes-gt-LONGEST.false c.requires.0 c.fresh.auto.cells (fresh_at _ c.unwrap-mark.ensures c.fresh.ensures.answer c.fresh.ensures.left) c.walk.ensures
