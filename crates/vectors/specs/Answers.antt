-- What a list's answers are held to: SMT-LIB's answer to an operation from 30 to 49, by document 01's numbers.
use Rattle.std.specs.Prelude.{ℕ, ◌+◌, ◌<◌, ◌≤◌, ◌^◌, ◌≡◌, Bool, cond, eqb, leb}
use Rattle.smtlib.specs.Theory.{IsWidth, bvneg}
use Rattle.smtlib.specs.Logic.{zero_extend}
use Rattle.smtlib.specs.Overflow.{bvnego}
use Rattle.smtlib.specs.Numbered.{bvapp_of, bvcmp_of, bvso_of}

-- a predicate's answer as a number
abbrev pub bit : Bool → ℕ
bit b = cond b 1 0

-- the answer to operation k from 30 to 48 at width m
unfoldable pub plain_of : ℕ → ℕ → ℕ → ℕ → ℕ
plain_of k m s t =
    cond (eqb k 30) (bvneg m s)
    (cond (leb k 40) (bvapp_of k m s t)
    (cond (leb k 44) (bit (bvcmp_of k m s t))
    (cond (eqb k 45) (bit (bvnego m s))
    (bit (bvso_of k m s t)))))

-- the answer to operation k from 30 to 49: the second operand of 49, zero_extend, is its n
unfoldable pub answer_of : ℕ → ℕ → ℕ → ℕ → ℕ
answer_of k m s t = cond (eqb k 49) (zero_extend m t s) (plain_of k m s t)

-- k is an operation from 30 to 49, s and t are operands that it takes at width m, and a is the answer
pub record Right (k m s t a : ℕ) : Type 0 where
  pub least : 30 ≤ k
  pub most : k ≤ 49
  pub width : IsWidth m
  pub first : s < 2 ^ m
  pub second : (k ≡ 49 → m + t ≤ 64) × ((k ≡ 49 → ⊥) → t < 2 ^ m)
  pub answer : a ≡ answer_of k m s t
