use mathlib.Core.Bool.{true, false}
use Prim.Native.Nat.{◌<◌}
use lib.ListN.{length, get_or, take, length-set}
use mathlib.Core.Path.{refl, sym, ◌∙◌}
use native.Mathlib.Omega.{arith}
use Rattle.factory.proofs.Picks.{common-next, common_end, holds-one}
use Rattle.arena.proofs.Insertion.{holds_as, holds_then, holds_none}
use Rattle.factory_data.proofs.lists.common.Goals as goal
use Rattle.factory_data.proofs.lists.common.Goals.{then-contains, else-contains}

pub loop-x-init : goal.loop-x-init
loop-x-init c = (omega arith, refl, holds_none c.args.run.now, refl)

pub loop-x-preserved : goal.loop-x-preserved
loop-x-preserved c =
    let l = c.loop-x in
    elim c.if-contains.branch [
      | then-contains w ↦
          let k : l.n < length l.run = let p = c.requires in let q = l.invariant.1 in let t = c.loop-x-test.true in omega arith in
          let o = holds-one l.run l.n (get_or c.args.left.now l.x-index 0) k in
          rw (w.n-is, w.run-is) (
            omega arith,
            length-set l.run l.n _ ∙ l.invariant.1,
            holds_as (sym o.front) (holds_then l.invariant.2 o (omega arith)),
            l.invariant.3 ∙ common-next c.args.left.now c.args.right.now (take l.n l.run) _ l.x-index true c.loop-x-test.true (sym w.if-contains.true ∙ c.contains.ensures) o.front,
          )
      | else-contains w ↦ rw (w.n-is, w.run-is) (omega arith, l.invariant.1, l.invariant.2, l.invariant.3 ∙ common-next c.args.left.now c.args.right.now (take l.n l.run) _ l.x-index false c.loop-x-test.true (sym w.if-contains.false ∙ c.contains.ensures) refl)
    ]

pub returns : goal.returns
returns c = holds_as (sym (c.loop-x.invariant.3 ∙ common_end c.args.left.now c.args.right.now _ c.loop-x.x-index c.loop-x-test.false)) c.loop-x.invariant.2
