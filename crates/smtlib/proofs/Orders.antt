-- Orders in their plain forms: a signed order compares the signed values. Assumes nothing.
use mathlib.Core.Path.{◌≡◌, refl, sym, ◌∙◌}
use mathlib.Core.Bool.{Bool, true, false}
use mathlib.Core.Logic.{⊎_elim}
use Prim.Native.Nat.{ℕ, suc, ◌-◌, ◌^◌, ◌<◌}
use native.Mathlib.Omega.{arith}
use lib.Dec.{leb, ltb}
use lib.IntN.{ℤ, pos, negsuc}
use lib.Signed.{lt_z, le_z}
use Rattle.std.proofs.lemmas.Int.{ints}
use Rattle.std.proofs.lemmas.Bool.Decides.{nat_tests}
use Rattle.smtlib.specs.Theory.{bvult}
use Rattle.smtlib.specs.Logic.{top, by_top, bvule, bvslt, bvsle}
use Rattle.smtlib.specs.Overflow.{bv2int}
use Rattle.smtlib.proofs.Tops.{bit, top_lt}
use Rattle.smtlib.proofs.Absolute.{order}

pub ule_le : (s t : ℕ) → bvule s t ≡ leb s t
unfolding bvule bvult
ule_le s t = grind (arith, nat_tests)

-- a number below n counted down from n: the order turns round
down_lt : (n s t : ℕ) → s < n → t < n → ltb s t ≡ ltb (n - suc t) (n - suc s)
down_lt n s t hs ht = grind (arith, nat_tests)

down_le : (n s t : ℕ) → s < n → t < n → leb s t ≡ leb (n - suc t) (n - suc s)
down_le n s t hs ht = grind (arith, nat_tests)

-- the signed value where the top bit is known
value_0 : (m s : ℕ) → top m s ≡ 0 → bv2int m s ≡ pos s
unfolding bv2int
value_0 m s e = rw e refl

value_1 : (m s : ℕ) → s < 2 ^ m → top m s ≡ 1 → bv2int m s ≡ negsuc (2 ^ m - suc s)
unfolding bv2int
value_1 m s l e =
    rw e (omega (arith, ints))

module _ (m s t : ℕ) (hs : s < 2 ^ m) (ht : t < 2 ^ m) where
  -- r is an order on whole numbers that agrees with q on natural ones, turned round on negative ones
  by_tops_lem : (q : Bool) (r : ℤ → ℤ → Bool)
      → q ≡ r (pos s) (pos t)
      → q ≡ r (negsuc (2 ^ m - suc s)) (negsuc (2 ^ m - suc t))
      → r (negsuc (2 ^ m - suc s)) (pos t) ≡ true
      → r (pos s) (negsuc (2 ^ m - suc t)) ≡ false
      → by_top (top m s) (top m t) q ≡ r (bv2int m s) (bv2int m t)
  by_tops_lem q r low high less more =
      order q (top m s) (top m t) (top_lt m s) (top_lt m t)
      ∙ ⊎_elim
      (λ (x : top m s ≡ 0).
      ⊎_elim (λ (y : top m t ≡ 0). rw (value_0 m s x, value_0 m t y, x, y) low)
      (λ (y : top m t ≡ 1). rw (value_0 m s x, value_1 m t ht y, x, y) (sym more)) (bit (top_lt m t)))
      (λ (x : top m s ≡ 1).
      ⊎_elim (λ (y : top m t ≡ 0). rw (value_1 m s hs x, value_0 m t y, x, y) (sym less))
      (λ (y : top m t ≡ 1). rw (value_1 m s hs x, value_1 m t ht y, x, y) high) (bit (top_lt m t)))
      (bit (top_lt m s))

  pub slt_values : bvslt m s t ≡ lt_z (bv2int m s) (bv2int m t)
  unfolding bvult bvslt
  slt_values = by_tops_lem (bvult s t) lt_z refl (down_lt (2 ^ m) s t hs ht) refl refl

  pub sle_values : bvsle m s t ≡ le_z (bv2int m s) (bv2int m t)
  unfolding bvsle
  sle_values = by_tops_lem (bvule s t) le_z (ule_le s t) (ule_le s t ∙ down_le (2 ^ m) s t hs ht) refl refl
