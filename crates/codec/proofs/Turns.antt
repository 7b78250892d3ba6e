-- The writers' loops: what is still to be stored over what is there gives the whole. Assumes nothing.
use mathlib.Core.Path.{◌≡◌, sym, ap, ◌∙◌}
use mathlib.Core.List.{List}
use mathlib.Core.Logic.{⊎_elim}
use Prim.Native.Nat.{ℕ, ◌+◌, ◌/◌, ◌%◌, ◌≤◌, ◌<◌}
use native.Mathlib.Nat.{div-lt_self}
use native.Mathlib.Numerals.{add-one}
use native.Mathlib.Omega.{arith}
use lib.ListN.{length, set}
use lib.Seq.{sets}
use Rattle.codec.specs.Digits.{digits}
use Rattle.codec.specs.Numbers.{groups}
use Rattle.std.proofs.lemmas.Bool.{cases_lt}
use Rattle.codec.proofs.Digits.{digits-small, digits_more}
use Rattle.codec.proofs.Groups.{groups-small, groups_more, groups_some}

-- counting digits
pub record Counting (b n rest count : ℕ) : Type 0 where
  pub small : rest + count ≤ n + 1
  pub total : count + length (digits b rest) ≡ 1 + length (digits b n)

pub count_more : {b n rest count : ℕ} → 1 < b → b ≤ rest → Counting b n rest count → Counting b n (rest / b) (count + 1)
count_more {b} {n} {rest} p h c =
    let l : rest / b < rest = div-lt_self (omega arith) p in
    let e = ap length (digits_more b rest p h) in
    record { small = omega (arith, c.small); total = omega (arith, c.total) }

pub count_end : {b n rest count : ℕ} → rest < b → Counting b n rest count → count ≡ length (digits b n)
count_end {b} {n} {rest} h c =
    let e = ap length (digits-small b rest h) in
    omega (arith, c.total)

-- as many places are left as groups
pub groups_left : (rest : ℕ) → 1 < length (groups rest) → 128 ≤ rest
groups_left rest h = ⊎_elim (λ l. let e = ap length (groups-small rest l) in absurd (omega arith)) (λ l. l) (cases_lt rest 128)

pub groups-last : (rest : ℕ) → length (groups rest) ≤ 1 → rest < 128
groups-last rest h =
    ⊎_elim (λ l. l)
    (λ l. let e = ap length (groups_more rest l) in let g = groups_some (rest / 128) in absurd (omega arith))
    (cases_lt rest 128)

-- storing groups
module _ (out whole : List ℕ) (next rest end : ℕ) (place : next + length (groups rest) ≡ end) (left : sets out next (groups rest) ≡ whole) where
  pub group_more : 128 ≤ rest → (next + 1 + length (groups (rest / 128)) ≡ end) × (sets (set out next (128 + rest % 128)) (next + 1) (groups (rest / 128)) ≡ whole)
  group_more h =
      let e = ap length (groups_more rest h) in
      (omega arith, rw (add-one next) (sym (ap (sets out next) (groups_more rest h)) ∙ left))

  pub group_end : rest < 128 → (next + 1 ≡ end) × (set out next rest ≡ whole)
  group_end h =
      let e = ap length (groups-small rest h) in
      (omega arith, sym (ap (sets out next) (groups-small rest h)) ∙ left)
