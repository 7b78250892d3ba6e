use mathlib.Core.Path.{sym, subst}
use Prim.Native.Nat.{ℕ, ◌≤◌}
use native.Mathlib.Omega.{arith}
use Rattle.arena.proofs.Ext.{kind-known}
use Rattle.arena.proofs.Formed.{mark_is}
use Rattle.arena.proofs.Starts.{Past, past_start, past_from, past_over, past_end, past_fits, past_here, past_next}
use Rattle.arena.proofs.cells.View.kind_from.Goals as goal
use Rattle.arena.proofs.cells.View.kind_from.Goals.{then-p-from, else-p-from}

pub loop-at-init : goal.loop-at-init
loop-at-init c =
    let x = c.args in
    elim c.if-p-from.branch [
      | then-p-from w ↦ subst (λ (q : ℕ). (q ≤ x.self.now.mark) × Past x.self.now.cells.now x.self.now.mark x.p q) (sym w.at-is) (omega arith, past_start _ _ _)
      | else-p-from w ↦
          let k = kind-known _ _ c.requires in let m = mark_is c.args.self.now.below in
          subst (λ (q : ℕ). (q ≤ x.self.now.mark) × Past x.self.now.cells.now x.self.now.mark x.p q) (sym w.at-is) (omega arith, past_from c.args.self.now.below x.p x.from c.requires w.if-p-from.false)
    ]

pub returns-then-p-at : goal.returns-then-p-at
returns-then-p-at c =
    let l = c.loop-at in
    past_over c.args.self.now.below _ l.at l.invariant.1 c.if-p-at.true

pub returns-then-p-at-2 : goal.returns-then-p-at-2
returns-then-p-at-2 c =
    let l = c.loop-at in
    past_here c.args.self.now.below _ l.at l.invariant.1 c.loop-at-test.true c.if-p-at-2.true

pub bounds-self-at-in-loop-at : goal.bounds-self-at-in-loop-at
bounds-self-at-in-loop-at c = omega (arith, past_fits c.args.self.now.below _ c.loop-at.at c.loop-at.invariant.1 c.loop-at-test.true, c.args.self.now.below.fits)

pub overflow_add-at-in-loop-at : goal.overflow_add-at-in-loop-at
overflow_add-at-in-loop-at c = omega (arith, past_fits c.args.self.now.below _ c.loop-at.at c.loop-at.invariant.1 c.loop-at-test.true, c.args.self.now.below.fits)

pub overflow_add-at-in-loop-at-2 : goal.overflow_add-at-in-loop-at-2
overflow_add-at-in-loop-at-2 c = omega (arith, past_fits c.args.self.now.below _ c.loop-at.at c.loop-at.invariant.1 c.loop-at-test.true, c.args.self.now.below.fits)

pub loop-at-preserved : goal.loop-at-preserved
loop-at-preserved c =
    let l = c.loop-at in let t = c.loop-at-test.true in
    (past_fits c.args.self.now.below _ l.at l.invariant.1 t, past_next c.args.self.now.below _ l.at l.invariant.1 t c.if-p-at-2.false)

pub returns : goal.returns
returns c =
    let l = c.loop-at in
    past_end c.args.self.now.below _ l.at l.invariant.1 c.loop-at-test.false
