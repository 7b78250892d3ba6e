-- Quotients, remainders and shifts right need no cut: they are no larger than what they are made of. Assumes nothing.
use mathlib.Core.Path.{◌≡◌, sym, ap, ◌∙◌}
use mathlib.Core.Bool.{Bool, cond}
use Prim.Native.Nat.{ℕ, ◌+◌, ◌/◌, ◌%◌, ◌^◌, ◌≤◌, ◌<◌}
use native.Mathlib.Nat.{mod-eq_of_lt, mod-le, div-le_self, lt_of_le_of_lt, lt_of_lt_of_le, zero-mul, zero-add, le-add_right}
use lib.Pow.{pow_mono, shr_le}
use borrow.Author.Tests.{eq-eqb, ne_eqb}
use Rattle.smtlib.specs.Theory.{nat2bv, all_ones, concat, bvudiv, bvurem, bvlshr}
use Rattle.smtlib.specs.Logic.{zero_extend}
use Rattle.smtlib.proofs.Word.{shr_out}

-- a number that fits is not cut
pub nat2bv-fits : (m n : ℕ) → n < 2 ^ m → nat2bv m n ≡ n
unfolding nat2bv
nat2bv-fits m n h = mod-eq_of_lt h

pub udiv_zero : (m s t : ℕ) → t ≡ 0 → bvudiv m s t ≡ all_ones m
unfolding bvudiv
udiv_zero m s t e = ap (λ (b : Bool). cond b (all_ones m) (nat2bv m (s / t))) (eq-eqb t 0 e)

pub udiv_some : (m s t : ℕ) → s < 2 ^ m → (t ≡ 0 → ⊥) → bvudiv m s t ≡ s / t
unfolding bvudiv
udiv_some m s t h n =
    ap (λ (b : Bool). cond b (all_ones m) (nat2bv m (s / t))) (ne_eqb t 0 n) ∙ nat2bv-fits m (s / t) (lt_of_le_of_lt (div-le_self s t) h)

pub urem_zero : (m s t : ℕ) → t ≡ 0 → bvurem m s t ≡ s
unfolding bvurem
urem_zero m s t e = ap (λ (b : Bool). cond b s (nat2bv m (s % t))) (eq-eqb t 0 e)

pub urem_some : (m s t : ℕ) → s < 2 ^ m → (t ≡ 0 → ⊥) → bvurem m s t ≡ s % t
unfolding bvurem
urem_some m s t h n =
    ap (λ (b : Bool). cond b s (nat2bv m (s % t))) (ne_eqb t 0 n) ∙ nat2bv-fits m (s % t) (lt_of_le_of_lt (mod-le s t) h)

pub lshr_in : (m s t : ℕ) → s < 2 ^ m → bvlshr m s t ≡ s / 2 ^ t
unfolding bvlshr
lshr_in m s t h = nat2bv-fits m (s / 2 ^ t) (lt_of_le_of_lt (shr_le s t) h)

pub lshr_out : (m s t : ℕ) → s < 2 ^ m → m ≤ t → bvlshr m s t ≡ 0
lshr_out m s t h l = lshr_in m s t h ∙ shr_out s t m h l

-- at a larger width the number stays
pub extended : (m n v : ℕ) → v < 2 ^ m → nat2bv (m + n) v ≡ zero_extend m n v
unfolding zero_extend concat
extended m n v h =
    nat2bv-fits (m + n) v (lt_of_lt_of_le h (pow_mono (le-add_right m n)))
    ∙ sym (ap (λ (k : ℕ). k + v) (zero-mul (2 ^ m)) ∙ zero-add v)
