-- A product by halves, column by column, in base P = 2 ^ 32. Assumes nothing.
use mathlib.Core.Path.{◌≡◌, refl, sym, ap, ◌∙◌, subst⁻¹}
use Prim.Native.Nat.{ℕ, ◌+◌, ◌*◌, ◌/◌, ◌%◌, ◌^◌, ◌≤◌, ◌<◌}
use native.Mathlib.Nat.{add_assoc, add_comm, add_left_comm, mul_assoc, mul_comm, mul_left_comm, mul-add, add-mul, lt_of_le_of_lt, le_of_lt, mul-le-mul_left, mul-le-mul_right, le_trans, mul-add-mod_self_right, mul-lt-mul_of_pos_right}
use native.Mathlib.Omega.{arith}
use lib.Pow.{pow_pos, pow-add}
use Rattle.smtlib.specs.Theory.{nat2bv}
use Rattle.smtlib.proofs.Word.{mod-mod-le}

-- a product of two numbers of k bits has 2 k
pub below : (k : ℕ) {a b : ℕ} → a < 2 ^ k → b < 2 ^ k → a * b < 2 ^ (k + k)
below k {a} {b} ha hb =
    subst⁻¹ (λ (n : ℕ). a * b < n) (pow-add 2 k k)
    (lt_of_le_of_lt (mul-le-mul_left a (le_of_lt hb)) (mul-lt-mul_of_pos_right ha (pow_pos k)))

-- two digits
pub digits : {a b : ℕ} → a < 2 ^ 32 → b < 2 ^ 32 → a * b ≤ 18446744065119617025
digits {a} {b} ha hb =
    let x : a ≤ 4294967295 = omega arith in
    let y : b ≤ 4294967295 = omega arith in
    le_trans (mul-le-mul_left a y) (mul-le-mul_right 4294967295 x)

ring : (P a₀ a₁ b₀ b₁ : ℕ) → a₁ * b₁ * (P * P) + ((a₁ * b₀ + a₀ * b₁) * P + a₀ * b₀) ≡ (a₁ * P + a₀) * (b₁ * P + b₀)
ring P a₀ a₁ b₀ b₁ = simp (mul-add, add-mul, mul_assoc, mul_comm, mul_left_comm, add_assoc, add_comm, add_left_comm) refl

-- the columns a, b, c, d with their carries
carries : (a b c d : ℕ)
    → (a + (b + d / 4294967296) / 4294967296 + ((b + d / 4294967296) % 4294967296 + c) / 4294967296) * 2 ^ 64
    + (((b + d / 4294967296) % 4294967296 + c) * 4294967296 % 2 ^ 64 + d % 4294967296)
    ≡ a * 2 ^ 64 + ((b + c) * 4294967296 + d)
carries a b c d = omega arith

-- the low word of a product holds the low bits
pub low_word : (m h l s t : ℕ) → m ≤ 64 → h * 2 ^ 64 + l ≡ s * t → nat2bv m l ≡ nat2bv m (s * t)
unfolding nat2bv
low_word m h l s t w e =
    sym (mod-mod-le l m 64 w)
    ∙ ap (λ (n : ℕ). n % 2 ^ m) (sym (mul-add-mod_self_right h (2 ^ 64) l) ∙ ap (λ (n : ℕ). n % 2 ^ 64) e)
    ∙ mod-mod-le (s * t) m 64 w

-- the whole product of (a₁, a₀) and (b₁, b₀)
pub columns : (a₀ a₁ b₀ b₁ : ℕ)
    → (a₁ * b₁ + (a₁ * b₀ + a₀ * b₀ / 4294967296) / 4294967296 + ((a₁ * b₀ + a₀ * b₀ / 4294967296) % 4294967296 + a₀ * b₁) / 4294967296) * 2 ^ 64
    + (((a₁ * b₀ + a₀ * b₀ / 4294967296) % 4294967296 + a₀ * b₁) * 4294967296 % 2 ^ 64 + a₀ * b₀ % 4294967296)
    ≡ (a₁ * 4294967296 + a₀) * (b₁ * 4294967296 + b₀)
columns a₀ a₁ b₀ b₁ = carries (a₁ * b₁) (a₁ * b₀) (a₀ * b₁) (a₀ * b₀) ∙ ring 4294967296 a₀ a₁ b₀ b₁

-- two words that stand for one number are the same words
pub two_words_one : (h l h' l' : ℕ) → l < 2 ^ 64 → l' < 2 ^ 64 → h * 2 ^ 64 + l ≡ h' * 2 ^ 64 + l' → (h ≡ h') × (l ≡ l')
two_words_one h l h' l' a b e = (omega arith, omega arith)
