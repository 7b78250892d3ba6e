-- Every result is a bitvector of its width. Assumes nothing.
use mathlib.Core.Bool.{Bool, true, false, cond, ◌&&◌}
use Prim.Native.Nat.{ℕ, ◌+◌, ◌-◌, ◌/◌, ◌%◌, ◌^◌, ◌<◌}
use native.Mathlib.Nat.{mod-lt}
use lib.Pow.{pow_pos, ones_lt}
use lib.Dec.{eqb}
use Rattle.smtlib.specs.Theory.{nat2bv, all_ones, bvneg, bvadd, bvmul, bvudiv, bvurem, bvshl, bvlshr}
use Rattle.smtlib.specs.Logic.{top, by_tops, bvsub, bvsdiv, bvsrem, bvabs, bvsmod_of, bvsmod}
use Rattle.smtlib.specs.Numbered.{bvapp_of}

-- whichever of two is taken
pub cond-lt : {m : ℕ} (b : Bool) {x y : ℕ} → x < m → y < m → cond b x y < m
cond-lt true h k = h
cond-lt false h k = k

pub nat2bv-lt : (m n : ℕ) → nat2bv m n < 2 ^ m
unfolding nat2bv
nat2bv-lt m n = mod-lt n (pow_pos m)

pub bvneg-lt : (m s : ℕ) → bvneg m s < 2 ^ m
unfolding bvneg
bvneg-lt m s = nat2bv-lt m (2 ^ m - s)

pub bvadd-lt : (m s t : ℕ) → bvadd m s t < 2 ^ m
unfolding bvadd
bvadd-lt m s t = nat2bv-lt m (s + t)

pub bvudiv-lt : (m s t : ℕ) → bvudiv m s t < 2 ^ m
unfolding bvudiv all_ones
bvudiv-lt m s t = cond-lt (eqb t 0) (ones_lt m) (nat2bv-lt m (s / t))

pub bvurem-lt : (m s t : ℕ) → s < 2 ^ m → bvurem m s t < 2 ^ m
unfolding bvurem
bvurem-lt m s t h = cond-lt (eqb t 0) h (nat2bv-lt m (s % t))

pub bvabs-lt : (m s : ℕ) → s < 2 ^ m → bvabs m s < 2 ^ m
unfolding bvabs
bvabs-lt m s h = cond-lt (eqb (top m s) 0) h (bvneg-lt m s)

by_tops-lt : {m : ℕ} (x y : ℕ) {a b c d : ℕ} → a < m → b < m → c < m → d < m → by_tops x y a b c d < m
unfolding by_tops
by_tops-lt x y ha hb hc hd =
    cond-lt (eqb x 0 && eqb y 0) ha (cond-lt (eqb x 1 && eqb y 0) hb (cond-lt (eqb x 0 && eqb y 1) hc hd))

pub bvsdiv-lt : (m s t : ℕ) → bvsdiv m s t < 2 ^ m
unfolding bvsdiv
bvsdiv-lt m s t = by_tops-lt (top m s) (top m t) (bvudiv-lt m s t) (bvneg-lt m _) (bvneg-lt m _) (bvudiv-lt m _ _)

pub bvsrem-lt : (m s t : ℕ) → s < 2 ^ m → bvsrem m s t < 2 ^ m
unfolding bvsrem
bvsrem-lt m s t h = by_tops-lt (top m s) (top m t) (bvurem-lt m s t h) (bvneg-lt m _) (bvurem-lt m s _ h) (bvneg-lt m _)

pub bvsmod-lt : (m s t : ℕ) → s < 2 ^ m → bvsmod m s t < 2 ^ m
unfolding bvsmod bvsmod_of
bvsmod-lt m s t h =
    let u = bvurem-lt m (bvabs m s) (bvabs m t) (bvabs-lt m s h) in
    cond-lt (eqb (bvurem m (bvabs m s) (bvabs m t)) 0) u (by_tops-lt (top m s) (top m t) u (bvadd-lt m _ _) (bvadd-lt m _ _) (bvneg-lt m _))

pub bvapp_lt : (k m s t : ℕ) → s < 2 ^ m → bvapp_of k m s t < 2 ^ m
unfolding bvapp_of bvsub bvmul bvshl bvlshr
bvapp_lt k m s t h =
    cond-lt (eqb k 31) (bvadd-lt m s t)
    (cond-lt (eqb k 32) (bvadd-lt m s _)
    (cond-lt (eqb k 33) (nat2bv-lt m _)
    (cond-lt (eqb k 34) (bvsdiv-lt m s t)
    (cond-lt (eqb k 35) (bvudiv-lt m s t)
    (cond-lt (eqb k 36) (bvsrem-lt m s t h)
    (cond-lt (eqb k 37) (bvsmod-lt m s t h)
    (cond-lt (eqb k 38) (bvurem-lt m s t h)
    (cond-lt (eqb k 39) (nat2bv-lt m _)
    (nat2bv-lt m _)))))))))
