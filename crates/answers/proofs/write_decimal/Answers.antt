use mathlib.Core.Path.{refl, ap}
use Prim.Native.Nat.{◌+◌}
use native.Mathlib.Omega.{arith}
use Rattle.codec.proofs.Putting.{sets_puts}
use Rattle.answers.proofs.Turns.{to_store, length-decimal, decimal-most, left_more, left-none}
use Rattle.answers.proofs.write_decimal.Goals as goal

pub overflow_add-end : goal.overflow_add-end
overflow_add-end c = omega (arith, decimal-most c.args.n c.ranges.n.fits)

pub loop-place-init : goal.loop-place-init
loop-place-init c = to_store (ap (◌+◌ c.args.at) c.digit_count.ensures) refl

pub bounds-out-place : goal.bounds-out-place
bounds-out-place c = omega (arith, decimal-most c.args.n c.ranges.n.fits)

pub loop-place-preserved : goal.loop-place-preserved
loop-place-preserved c =
    let l = c.loop-place in
    left_more c.args.at l.place l.rest l.out _ c.loop-place-test.true l.invariant

pub returns : goal.returns
returns c =
    let l = c.loop-place in
    let n = c.args.n in
    let e = length-decimal n in
    sets_puts (omega (arith, decimal-most n c.ranges.n.fits)) (omega arith)
    (left-none c.args.at l.place l.rest l.out _ c.loop-place-test.false l.invariant)
