-- The digits of a number, by its quotient. Assumes nothing.
use mathlib.Core.Path.{◌≡◌, ap, ◌∙◌, subst}
use mathlib.Core.Logic.{⊎_elim}
use mathlib.Core.List.{[], ◌∷◌}
use Prim.Native.Nat.{ℕ, zero, suc, ◌*◌, ◌/◌, ◌%◌, ◌^◌, ◌≤◌, ◌<◌, suc-le-suc}
use native.Mathlib.Nat.{div-lt_self, div-lt_iff_lt-mul, pow-suc, pow-zero, one-mul}
use native.Mathlib.Omega.{arith}
use borrow.Author.Tests.{lt-ltb, le-ltb, ltb-false}
use lib.Dec.{ltb}
use lib.ListN.{length}
use Rattle.codec.specs.Digits.{digits_in, digits}
use Rattle.std.proofs.lemmas.Bool.{cases_lt}
use Rattle.codec.proofs.Choices.{cond_else}

-- a quotient is smaller, so one digit less does
quotient : {b k n : ℕ} → 1 < b → b ≤ n → n < suc k → n / b < k
quotient {b} {k} {n} p h l = let s : n / b < n = div-lt_self (omega arith) p in omega arith

-- what is more than enough changes nothing
enough : (b k j n : ℕ) → 1 < b → n < k → n < j → digits_in b k n ≡ digits_in b j n
unfolding digits_in
enough b zero j n p hk hj = absurd (omega arith)
enough b (suc k) zero n p hk hj = absurd (omega arith)
enough b (suc k) (suc j) n p hk hj =
    cond_else (ltb n b) (n ∷ [])
    (λ e. ap (◌∷◌ (n % b)) (enough b k j (n / b) p (quotient p (ltb-false n b e) hk) (quotient p (ltb-false n b e) hj)))

pub digits-small : (b n : ℕ) → n < b → digits b n ≡ n ∷ []
unfolding digits digits_in
digits-small b n h = rw (lt-ltb n b h)

pub digits_more : (b n : ℕ) → 1 < b → b ≤ n → digits b n ≡ n % b ∷ digits b (n / b)
unfolding digits digits_in
digits_more b n p h = rw (le-ltb n b h) (ap (◌∷◌ (n % b)) (enough b n (suc (n / b)) (n / b) p (quotient p h (omega arith)) (omega arith)))

-- what holds of numbers below the base, and of each whose quotient has it, holds of all
pub by_quotient : (b : ℕ) → 1 < b → (P : ℕ → Type 0) → ((n : ℕ) → n < b → P n) → ((n : ℕ) → b ≤ n → P (n / b) → P n) → (n : ℕ) → P n
by_quotient b p P small more n = go (suc n) n (omega arith)
  where
    go : (k m : ℕ) → m < k → P m
    go zero m h = absurd (omega arith)
    go (suc k) m h = ⊎_elim (small m) (λ l. more m l (go k (m / b) (quotient p l h))) (cases_lt m b)

pub digits_some : (b n : ℕ) → 1 < b → 0 < length (digits b n)
digits_some b n p =
    ⊎_elim (λ h. rw (digits-small b n h) (omega arith)) (λ h. rw (digits_more b n p h) (omega arith)) (cases_lt n b)

-- a number below a power of the base has no more digits than the power
pub digits-most : (b : ℕ) → 1 < b → (k n : ℕ) → n < b ^ suc k → length (digits b n) ≤ suc k
digits-most b p zero n l =
    let e : b ^ 1 ≡ b = pow-suc b zero ∙ ap (λ (x : ℕ). x * b) (pow-zero b) ∙ one-mul b in
    rw (digits-small b n (omega arith)) (omega arith)
digits-most b p (suc k) n l =
    ⊎_elim (λ h. rw (digits-small b n h) (omega arith))
    (λ h. rw (digits_more b n p h) (suc-le-suc (digits-most b p k (n / b) ((div-lt_iff_lt-mul (omega arith)).1 (subst (λ (x : ℕ). n < x) (pow-suc b (suc k)) l)))))
    (cases_lt n b)
