-- The signed operations by absolute values and a comparison of the top bits: what the code computes. Assumes nothing.
use mathlib.Core.Path.{◌≡◌, refl, sym, ap, ◌∙◌}
use mathlib.Core.Bool.{Bool, true, false, cond, beq}
use mathlib.Core.Logic.{⊎_elim}
use Prim.Native.Nat.{ℕ, ◌^◌, ◌≤◌, ◌<◌}
use native.Mathlib.Omega.{arith}
use lib.Dec.{eqb}
use borrow.Author.Tests.{eqb-true, eqb-false, ne_eqb}
use Rattle.smtlib.specs.Theory.{bvneg, bvadd, bvudiv, bvurem}
use Rattle.smtlib.specs.Logic.{top, by_tops, bvabs, bvsdiv, bvsrem, bvsmod_of, bvsmod, by_top}
use Rattle.smtlib.proofs.Below.{bvabs-lt, bvurem-lt}
use Rattle.std.proofs.lemmas.Bool.{cases_lt}
use Rattle.smtlib.proofs.Tops.{top_lt, bit}
use Rattle.smtlib.proofs.Negation.{neg_zero, neg_pos}

-- what holds at the bits 0 and 1 holds at any two bits
both_bits : (P : ℕ → ℕ → Type 0) → P 0 0 → P 0 1 → P 1 0 → P 1 1 → (x y : ℕ) → x < 2 → y < 2 → P x y
both_bits P a b c d x y hx hy =
    ⊎_elim (λ (e : x ≡ 0). ⊎_elim (λ (f : y ≡ 0). rw (e, f) a) (λ (f : y ≡ 1). rw (e, f) b) (bit hy))
    (λ (e : x ≡ 1). ⊎_elim (λ (f : y ≡ 0). rw (e, f) c) (λ (f : y ≡ 1). rw (e, f) d) (bit hy))
    (bit hx)

-- the absolute value by the top bit, as bvabs has it
abs : ℕ → ℕ → ℕ → ℕ
abs x s n = cond (eqb x 0) s n

-- a quotient by the cases of the top bits: f divides, g negates; s and t with their negations n and k
quotient : (f : ℕ → ℕ → ℕ) (g : ℕ → ℕ) (s t n k x y : ℕ) → x < 2 → y < 2
    → by_tops x y (f s t) (g (f n t)) (g (f s k)) (f n k) ≡ cond (eqb x y) (f (abs x s n) (abs y t k)) (g (f (abs x s n) (abs y t k)))
unfolding by_tops abs
quotient f g s t n k =
    both_bits (λ x y. by_tops x y (f s t) (g (f n t)) (g (f s k)) (f n k) ≡ cond (eqb x y) (f (abs x s n) (abs y t k)) (g (f (abs x s n) (abs y t k))))
    refl refl refl refl

-- and a remainder, with the dividend's sign
remainder : (f : ℕ → ℕ → ℕ) (g : ℕ → ℕ) (s t n k x y : ℕ) → x < 2 → y < 2
    → by_tops x y (f s t) (g (f n t)) (f s k) (g (f n k)) ≡ cond (eqb x 1) (g (f (abs x s n) (abs y t k))) (f (abs x s n) (abs y t k))
unfolding by_tops abs
remainder f g s t n k =
    both_bits (λ x y. by_tops x y (f s t) (g (f n t)) (f s k) (g (f n k)) ≡ cond (eqb x 1) (g (f (abs x s n) (abs y t k))) (f (abs x s n) (abs y t k)))
    refl refl refl refl

pub abs_high : (m s : ℕ) → eqb (top m s) 1 ≡ true → bvabs m s ≡ bvneg m s
unfolding bvabs
abs_high m s h = rw (eqb-true (top m s) 1 h) refl

pub abs_low : (m s : ℕ) → eqb (top m s) 1 ≡ false → bvabs m s ≡ s
unfolding bvabs
abs_low m s h = rw (⊎_elim (λ (e : top m s ≡ 0). e) (λ e. absurd (eqb-false (top m s) 1 h e)) (bit (top_lt m s))) refl

pub sdiv_abs : (m s t : ℕ) → bvsdiv m s t ≡ cond (eqb (top m s) (top m t)) (bvudiv m (bvabs m s) (bvabs m t)) (bvneg m (bvudiv m (bvabs m s) (bvabs m t)))
unfolding bvsdiv bvabs abs
sdiv_abs m s t = quotient (bvudiv m) (bvneg m) s t (bvneg m s) (bvneg m t) (top m s) (top m t) (top_lt m s) (top_lt m t)

pub srem_abs : (m s t : ℕ) → bvsrem m s t ≡ cond (eqb (top m s) 1) (bvneg m (bvurem m (bvabs m s) (bvabs m t))) (bvurem m (bvabs m s) (bvabs m t))
unfolding bvsrem bvabs abs
srem_abs m s t = remainder (bvurem m) (bvneg m) s t (bvneg m s) (bvneg m t) (top m s) (top m t) (top_lt m s) (top_lt m t)

-- by the remainder r with the dividend's sign, made of u
modulus : (g : ℕ → ℕ) (h : ℕ → ℕ) (u x y : ℕ) → x < 2 → y < 2
    → by_tops x y u (h (g u)) (h u) (g u) ≡ cond (eqb x y) (cond (eqb x 1) (g u) u) (h (cond (eqb x 1) (g u) u))
unfolding by_tops
modulus g h u =
    both_bits (λ x y. by_tops x y u (h (g u)) (h u) (g u) ≡ cond (eqb x y) (cond (eqb x 1) (g u) u) (h (cond (eqb x 1) (g u) u)))
    refl refl refl refl

-- a negation is 0 exactly where the number is
neg_none : (m u : ℕ) → u < 2 ^ m → eqb (bvneg m u) 0 ≡ eqb u 0
neg_none m u l = ⊎_elim none some (cases_lt u 1)
  where
    some : 1 ≤ u → eqb (bvneg m u) 0 ≡ eqb u 0
    some p =
        let e = neg_pos m u p (omega arith) in
        ne_eqb (bvneg m u) 0 (λ z. omega arith) ∙ sym (ne_eqb u 0 (λ z. omega arith))

    none : u < 1 → eqb (bvneg m u) 0 ≡ eqb u 0
    none p = let z : u ≡ 0 = omega arith in rw z (ap (λ (n : ℕ). eqb n 0) (neg_zero m))

if_none : (m u : ℕ) (b : Bool) → u < 2 ^ m → eqb (cond b (bvneg m u) u) 0 ≡ eqb u 0
if_none m u true l = neg_none m u l
if_none m u false l = refl

-- where u is 0 so is what is taken, so 0 may stand for it
zero_first : (u v : ℕ) → cond (eqb u 0) u v ≡ cond (eqb u 0) 0 v
zero_first u v = go (eqb u 0) refl
  where
    go : (b : Bool) → eqb u 0 ≡ b → cond b u v ≡ cond b 0 v
    go true e = eqb-true u 0 e
    go false e = refl

pub smod_rem : (m s t : ℕ) → s < 2 ^ m
    → bvsmod m s t ≡ cond (eqb (bvsrem m s t) 0) 0 (cond (eqb (top m s) (top m t)) (bvsrem m s t) (bvadd m (bvsrem m s t) t))
unfolding bvsmod bvsmod_of
smod_rem m s t h =
    let u = bvurem m (bvabs m s) (bvabs m t) in
    let b = eqb (top m s) 1 in
    let l : u < 2 ^ m = bvurem-lt m (bvabs m s) (bvabs m t) (bvabs-lt m s h) in
    zero_first u _
    ∙ ap (λ (v : ℕ). cond (eqb u 0) 0 v) (modulus (bvneg m) (λ r. bvadd m r t) u (top m s) (top m t) (top_lt m s) (top_lt m t))
    ∙ ap (λ (c : Bool). cond c 0 (cond (eqb (top m s) (top m t)) (cond b (bvneg m u) u) (bvadd m (cond b (bvneg m u) u) t))) (sym (if_none m u b l))
    ∙ ap (λ (r : ℕ). cond (eqb r 0) 0 (cond (eqb (top m s) (top m t)) r (bvadd m r t))) (sym (srem_abs m s t))

-- a signed order, from one on the bits
pub order : (b : Bool) (x y : ℕ) → x < 2 → y < 2 → by_top x y b ≡ cond (eqb x y) b (eqb x 1)
unfolding by_top
order b = both_bits (λ x y. by_top x y b ≡ cond (eqb x y) b (eqb x 1)) refl refl refl refl

-- the code's comparison of two signs
pub same_tops : (m s t : ℕ) (b c : Bool) → b ≡ eqb (top m s) 1 → c ≡ eqb (top m t) 1 → eqb (top m s) (top m t) ≡ beq b c
same_tops m s t b c e f =
    rw (e, f) (both_bits (λ x y. eqb x y ≡ beq (eqb x 1) (eqb y 1)) refl refl refl refl (top m s) (top m t) (top_lt m s) (top_lt m t))
