-- bvneg and bvnot. Assumes nothing.
use mathlib.Core.Path.{◌≡◌, ap, ◌∙◌}
use mathlib.Core.Logic.{⊎_elim}
use Prim.Native.Nat.{ℕ, ◌-◌, ◌%◌, ◌^◌, ◌≤◌, ◌<◌}
use native.Mathlib.Nat.{mod-eq_of_lt, mod_self, sub-zero}
use native.Mathlib.Omega.{arith}
use lib.Bits.{bit_and, and_mask, xor_add_and}
use Rattle.smtlib.specs.Theory.{nat2bv, all_ones, bvnot, bvneg, bvadd}
use Rattle.std.proofs.lemmas.Bool.{cases_lt}

-- flipping every bit is what is left to all ones
pub not_sub : (m s : ℕ) → s < 2 ^ m → bvnot m s ≡ 2 ^ m - 1 - s
unfolding bvnot all_ones
not_sub m s h =
    let e = xor_add_and s (2 ^ m - 1) in
    let a : bit_and s (2 ^ m - 1) ≡ s = and_mask s m ∙ mod-eq_of_lt h in
    omega arith

-- two's complement: flip and add 1
pub neg_not : (m s : ℕ) → s < 2 ^ m → bvadd m (bvnot m s) 1 ≡ bvneg m s
unfolding bvadd bvneg
neg_not m s h =
    let e = not_sub m s h in
    ap (nat2bv m) (omega arith)

pub neg_zero : (m : ℕ) → bvneg m 0 ≡ 0
unfolding bvneg nat2bv
neg_zero m = ap (λ (n : ℕ). n % 2 ^ m) (sub-zero (2 ^ m)) ∙ mod_self (2 ^ m)

pub neg_pos : (m s : ℕ) → 0 < s → s ≤ 2 ^ m → bvneg m s ≡ 2 ^ m - s
unfolding bvneg nat2bv
neg_pos m s p h = mod-eq_of_lt (omega arith)

-- neg is an involution
pub neg_neg : (m s : ℕ) → s < 2 ^ m → bvneg m (bvneg m s) ≡ s
neg_neg m s h = ⊎_elim none some (cases_lt s 1)
  where
    some : 1 ≤ s → bvneg m (bvneg m s) ≡ s
    some p =
        let e = neg_pos m s p (omega arith) in
        ap (bvneg m) e ∙ neg_pos m (2 ^ m - s) (omega arith) (omega arith) ∙ (omega arith)

    none : s < 1 → bvneg m (bvneg m s) ≡ s
    none p =
        let z : s ≡ 0 = omega arith in
        rw z (ap (bvneg m) (neg_zero m) ∙ neg_zero m)
