-- What shifts and masks of a 64-bit word say of its low bits. Assumes nothing.
use mathlib.Core.Path.{◌≡◌, sym, ap, ◌∙◌, subst}
use Prim.Native.Nat.{ℕ, ◌+◌, ◌-◌, ◌*◌, ◌/◌, ◌%◌, ◌^◌, ◌≤◌, ◌<◌}
use native.Mathlib.Nat.{sub-add_cancel, mul-mod_left, mul_assoc, one-mul, mod-eq_of_lt, div-eq_of_lt, lt_of_lt_of_le}
use native.Mathlib.Omega.{arith}
use lib.Pow.{pow-add, pow_mono, pow-lt, ones_split, ones_lt, high, mod-mod-pow}

-- the j high ones of j + k ones
pub ones_shr : (j k : ℕ) → (2 ^ (j + k) - 1) / 2 ^ k ≡ 2 ^ j - 1
ones_shr j k = ap (λ (n : ℕ). n / 2 ^ k) (ones_split j k) ∙ high (2 ^ j - 1) k (ones_lt k)

-- a word of v bits holds the w low bits
pub mod-mod-le : (n w v : ℕ) → w ≤ v → n % 2 ^ v % 2 ^ w ≡ n % 2 ^ w
mod-mod-le n w v h = subst (λ (x : ℕ). n % 2 ^ x % 2 ^ w ≡ n % 2 ^ w) (sub-add_cancel h) (mod-mod-pow n (v - w) w)

-- a left shift by the width or more leaves nothing
pub shl_out : (a n w : ℕ) → w ≤ n → a * 2 ^ n % 2 ^ w ≡ 0
shl_out a n w h =
    ap (λ (x : ℕ). a * x % 2 ^ w) (ap (λ (k : ℕ). 2 ^ k) (sym (sub-add_cancel h)) ∙ pow-add 2 (n - w) w)
    ∙ ap (λ (x : ℕ). x % 2 ^ w) (sym (mul_assoc a (2 ^ (n - w)) (2 ^ w)))
    ∙ mul-mod_left (a * 2 ^ (n - w)) (2 ^ w)

-- nor does a right shift
pub shr_out : (a n w : ℕ) → a < 2 ^ w → w ≤ n → a / 2 ^ n ≡ 0
shr_out a n w l h = div-eq_of_lt (lt_of_lt_of_le l (pow_mono h))

below_word : (m : ℕ) → m ≤ 64 → m - 1 < 64
below_word m h = omega arith

-- the smallest signed number fits a word
pub half_lt : (m : ℕ) → m ≤ 64 → 2 ^ (m - 1) < 2 ^ 64
half_lt m h = pow-lt (below_word m h)

pub half_fits : (m : ℕ) → m ≤ 64 → 1 * 2 ^ (m - 1) % 2 ^ 64 ≡ 2 ^ (m - 1)
half_fits m h = ap (λ (n : ℕ). n % 2 ^ 64) (one-mul (2 ^ (m - 1))) ∙ mod-eq_of_lt (half_lt m h)
