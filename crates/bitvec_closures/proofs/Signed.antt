-- The signed value of a bitvector as the code has it. Assumes nothing.
use Rattle.std.proofs.Common.{◌≡◌, ℕ, ◌-◌, ◌^◌, ◌<◌, ◌≤◌, true, false, eqb, pos, neg_ℤ, refl, ⊎_elim, arith, pow_pos, eqb-true, pow_mono}
use borrow.Author.Tests.{eqb-false}
use Rattle.std.proofs.lemmas.Bool.{cases_lt}
use Rattle.std.proofs.lemmas.Int.{ints}
use Rattle.smtlib.specs.Theory.{IsWidth, bvneg}
use Rattle.smtlib.specs.Logic.{top}
use Rattle.smtlib.specs.Overflow.{bv2int}
use Rattle.smtlib.proofs.Tops.{top_low, top_high, halves}
use Rattle.smtlib.proofs.Negation.{neg_pos}

-- half of a width's numbers are 2 ^ 63 at most
half_le : (m : ℕ) → IsWidth m → 2 ^ (m - 1) ≤ 2 ^ 63
half_le m w = let u = w.most in let l : m - 1 ≤ 63 = omega arith in pow_mono l

-- with its top bit v stands for what it lacks to 2 ^ m, below 0
pub negative : (m v r : ℕ) → IsWidth m → v < 2 ^ m → eqb (top m v) 1 ≡ true → r ≡ bvneg m v → (neg_ℤ (pos r) ≡ bv2int m v) × r ≤ 2 ^ 63
unfolding bv2int
negative m v r w l h e =
    let t = eqb-true (top m v) 1 h in
    let b : 2 ^ (m - 1) ≤ v = ⊎_elim (λ p. absurd (let z = top_low m v p in omega arith)) (λ p. p) (cases_lt v (2 ^ (m - 1))) in
    let p = pow_pos (m - 1) in
    let two = halves m w.least in
    let n = neg_pos m v (omega arith) (omega arith) in
    let half = half_le m w in
    (rw t (omega (arith, ints)), omega arith)

-- without it for itself
pub positive : (m v : ℕ) → IsWidth m → v < 2 ^ m → eqb (top m v) 1 ≡ false → (pos v ≡ bv2int m v) × v ≤ 2 ^ 63
unfolding bv2int
positive m v w l h =
    let n = eqb-false (top m v) 1 h in
    let b : v < 2 ^ (m - 1) = ⊎_elim (λ p. p) (λ p. absurd (n (top_high m v w.least l p))) (cases_lt v (2 ^ (m - 1))) in
    let half = half_le m w in
    (rw (top_low m v b) refl, omega arith)
