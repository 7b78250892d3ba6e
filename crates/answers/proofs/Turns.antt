-- Storing decimal digits: what is still to be stored over what is there gives the whole. Assumes nothing.
use mathlib.Core.Path.{◌≡◌, refl, sym, ap, ap₂, ◌∙◌}
use mathlib.Core.Logic.{⊎_elim}
use mathlib.Core.List.{List, [], ◌∷◌, ◌++◌}
use Prim.Native.Nat.{ℕ, ◌+◌, ◌-◌, ◌/◌, ◌%◌, ◌^◌, ◌≤◌, ◌<◌}
use native.Mathlib.Omega.{arith}
use lib.ListN.{length, set, length-append}
use lib.Seq.{sets}
use Rattle.codec.specs.Digits.{digits}
use Rattle.std.proofs.lemmas.Bool.{cases_lt}
use Rattle.codec.proofs.Digits.{digits-small, digits_more, digits_some, digits-most}
use Rattle.codec.proofs.Putting.{sets_last}
use Rattle.answers.specs.Lines.{text, decimal}

length-text : (ds : List ℕ) → length (text ds) ≡ length ds
unfolding text
length-text [] = refl
length-text (d ∷ ds) = let e = length-append (text ds) ((48 + d) ∷ []) in let i = length-text ds in omega arith

pub length-decimal : (n : ℕ) → length (decimal n) ≡ length (digits 10 n)
unfolding decimal
length-decimal n = length-text (digits 10 n)

pub decimal-most : (n : ℕ) → n < 2 ^ 64 → length (digits 10 n) ≤ 20
decimal-most n h = digits-most 10 (omega arith) 19 n (omega arith)

decimal-small : (n : ℕ) → n < 10 → decimal n ≡ (48 + n) ∷ []
unfolding decimal text
decimal-small n h = rw (digits-small 10 n h)

decimal_more : (n : ℕ) → 10 ≤ n → decimal n ≡ decimal (n / 10) ++ ((48 + n % 10) ∷ [])
unfolding decimal text
decimal_more n h = rw (digits_more 10 n (omega arith) h)

-- what is left before a place: every digit is there, or those of a rest end at it, and stored give the whole
pub data Left (at place rest : ℕ) (out whole : List ℕ) : Type 0 where
  stored : place ≡ at → out ≡ whole → Left at place rest out whole
  to_store : place ≡ at + length (digits 10 rest) → sets out at (decimal rest) ≡ whole → Left at place rest out whole

-- a turn, at the place before
module _ (at place rest : ℕ) (out whole : List ℕ) where
  digit_more : place ≡ at + length (digits 10 rest) → sets out at (decimal rest) ≡ whole → 10 ≤ rest → Left at (place - 1) (rest / 10) (set out (place - 1) (48 + rest % 10)) whole
  digit_more e l h =
      let d = ap length (digits_more 10 rest (omega arith) h) in
      let k : place - 1 ≡ at + length (decimal (rest / 10)) = omega (arith, length-decimal (rest / 10)) in
      to_store (omega arith)
      (ap (λ (x : ℕ). sets (set out x (48 + rest % 10)) at (decimal (rest / 10))) k
      ∙ sym (sets_last out at (decimal (rest / 10)) (48 + rest % 10))
      ∙ sym (ap (sets out at) (decimal_more rest h))
      ∙ l)

  digit_last : place ≡ at + length (digits 10 rest) → sets out at (decimal rest) ≡ whole → rest < 10 → Left at (place - 1) (rest / 10) (set out (place - 1) (48 + rest % 10)) whole
  digit_last e l h =
      let d = ap length (digits-small 10 rest h) in
      let k : place - 1 ≡ at = omega arith in
      let r : rest % 10 ≡ rest = omega arith in
      stored k (ap₂ (λ (x y : ℕ). set out x (48 + y)) k r ∙ sym (ap (sets out at) (decimal-small rest h)) ∙ l)

  pub left_more : at < place → Left at place rest out whole → Left at (place - 1) (rest / 10) (set out (place - 1) (48 + rest % 10)) whole
  left_more h (stored e l) = absurd (omega arith)
  left_more h (to_store e l) = ⊎_elim (digit_last e l) (digit_more e l) (cases_lt rest 10)

  pub left-none : place ≤ at → Left at place rest out whole → out ≡ whole
  left-none h (stored e l) = l
  left-none h (to_store e l) = absurd (omega (arith, digits_some 10 rest (omega arith)))
