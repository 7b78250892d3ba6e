-- The top bit: 1 from half of 2 ^ m on, 0 below. Assumes nothing.
use mathlib.Core.Path.{◌≡◌, sym, ap, ◌∙◌}
use mathlib.Core.Logic.{◌⊎◌}
use Prim.Native.Nat.{ℕ, ◌+◌, ◌-◌, ◌*◌, ◌/◌, ◌%◌, ◌^◌, ◌≤◌, ◌<◌}
use native.Mathlib.Nat.{sub-add_cancel, sub_self, mod-eq_of_lt, mod-lt, div-eq_of_lt, div-eq_of_lt-le, div-lt_iff_lt-mul}
use native.Mathlib.Omega.{arith}
use lib.Pow.{pow_pos, pow-add}
use Rattle.smtlib.specs.Theory.{extract}
use Rattle.smtlib.specs.Logic.{top}

-- 2 ^ m is twice its half
pub halves : (m : ℕ) → 1 ≤ m → 2 ^ m ≡ 2 ^ (m - 1) + 2 ^ (m - 1)
halves m h =
    let e : 2 ^ m ≡ 2 ^ (m - 1) * 2 = ap (λ (k : ℕ). 2 ^ k) (sym (sub-add_cancel h)) ∙ pow-add 2 (m - 1) 1 in
    omega arith

pub top_is : (m s : ℕ) → top m s ≡ s / 2 ^ (m - 1) % 2
unfolding top extract
top_is m s = ap (λ (k : ℕ). s / 2 ^ (m - 1) % 2 ^ (k + 1)) (sub_self (m - 1))

pub top_lt : (m s : ℕ) → top m s < 2
top_lt m s = let e = top_is m s in let l : s / 2 ^ (m - 1) % 2 < 2 = mod-lt (s / 2 ^ (m - 1)) (omega arith) in omega arith

pub top_low : (m s : ℕ) → s < 2 ^ (m - 1) → top m s ≡ 0
top_low m s h = top_is m s ∙ ap (λ (k : ℕ). k % 2) (div-eq_of_lt h)

pub top_high : (m s : ℕ) → 1 ≤ m → s < 2 ^ m → 2 ^ (m - 1) ≤ s → top m s ≡ 1
top_high m s w l h =
    let e = halves m w in
    let q : s / 2 ^ (m - 1) ≡ 1 = div-eq_of_lt-le (2 ^ (m - 1)) {m = s} (omega arith) (omega arith) in
    top_is m s ∙ ap (λ (k : ℕ). k % 2) q

-- a bit is 0 or 1
pub bit : {x : ℕ} → x < 2 → (x ≡ 0) ⊎ (x ≡ 1)
bit h = grind arith

-- a bitvector has no bit above the top one
pub top-div : (m s : ℕ) → 1 ≤ m → s < 2 ^ m → top m s ≡ s / 2 ^ (m - 1)
top-div m s w l =
    let e = halves m w in
    let q : s / 2 ^ (m - 1) < 2 = (div-lt_iff_lt-mul (pow_pos (m - 1))).1 (omega arith) in
    top_is m s ∙ mod-eq_of_lt q
