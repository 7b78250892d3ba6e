-- A number is below 2 to a width where the bits above the width are 0.
use mathlib.Core.Path.{◌≡◌, refl, sym, ap, ◌∙◌}
use Prim.Native.Nat.{ℕ, ◌+◌, ◌*◌, ◌/◌, ◌%◌, ◌^◌, ◌≤◌, ◌<◌}
use native.Mathlib.Nat.{lt_of_lt_of_le, mod-lt, zero-mul, div-eq_of_lt}
use native.Mathlib.Omega.{arith}
use mathlib.Core.Bool.{Bool, true, false}
use lib.Dec.{eqb, leb, ltb}
use lib.Pow.{pow_pos, pow_mono, split}
use borrow.Author.Tests.{eq-eqb, ne_eqb, leb-true, leb-false, lt-ltb, le-ltb}

pub wide_fits : (v w : ℕ) → v < 2 ^ 64 → 64 ≤ w → true ≡ ltb v (2 ^ w)
wide_fits v w h k = sym (lt-ltb v (2 ^ w) (lt_of_lt_of_le h (pow_mono k)))

pub shift_fits : (v w : ℕ) → eqb (v / 2 ^ w) 0 ≡ ltb v (2 ^ w)
shift_fits v w = go (leb (2 ^ w) v) refl
  where
    zero? : v / 2 ^ w ≡ 0 → v < 2 ^ w
    zero? z =
        let s : v / 2 ^ w * 2 ^ w + v % 2 ^ w ≡ v = split v w in
        let e : v / 2 ^ w * 2 ^ w ≡ 0 = ap (λ (x : ℕ). x * 2 ^ w) z ∙ zero-mul (2 ^ w) in
        let m : v % 2 ^ w < 2 ^ w = mod-lt v (pow_pos w) in
        omega arith

    go : (b : Bool) → leb (2 ^ w) v ≡ b → eqb (v / 2 ^ w) 0 ≡ ltb v (2 ^ w)
    go true e =
        let x = leb-true (2 ^ w) v e in
        ne_eqb (v / 2 ^ w) 0 (λ z. let y = zero? z in omega arith) ∙ sym (le-ltb v (2 ^ w) x)
    go false e =
        let x = leb-false (2 ^ w) v e in
        eq-eqb (v / 2 ^ w) 0 (div-eq_of_lt x) ∙ sym (lt-ltb v (2 ^ w) x)
