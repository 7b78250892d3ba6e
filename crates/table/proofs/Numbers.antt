-- What the table says of an operation's number: computed at each number, and so known of every number in a range.
use mathlib.Core.Path.{◌≡◌, refl, sym, ◌∙◌, subst}
use Prim.Native.Nat.{ℕ, zero, suc, ◌+◌, ◌≤◌, ◌<◌}
use native.Mathlib.Omega.{arith}
use mathlib.Core.Bool.{Bool, true, false, cond, ◌&&◌, ◌||◌}
use mathlib.Core.Option.{none}
use mathlib.Core.List.{List, [], ◌∷◌}
use lib.ListN.{get_or}
use lib.Dec.{eqb, leb, ltb}
use mir.Val.{bool_byte}
use borrow.Author.Tests.{ne_eqb, leb-true, leb-false, ltb-true, le-leb, lt-leb}
use Rattle.arena.specs.Nodes.{Nodes, type_at}
use Rattle.arena.proofs.Bools.{t≢f, and_l, and_r, from}
use Rattle.table.specs.Table.{Shape, fixed, pairs, run, Row, #0, not_of, first_not, not_alike, not_bools, large, large_attributes, absent_attribute, table, row_of, known, row}
use Rattle.table.specs.Forms.{sort, sorts}

-- ---- ranges of numbers

-- what f says of n numbers from lo on
unfoldable pub told : {X : Type 0} → (ℕ → X) → ℕ → ℕ → List X
told f lo zero = []
told f lo (suc n) = f lo ∷ told f (suc lo) n

-- two that say the same of n numbers are equal at each
pub one_by_one : {X : Type 0} (f g : ℕ → X) (lo n : ℕ) → told f lo n ≡ told g lo n → (o : ℕ) → lo ≤ o → o < lo + n → f o ≡ g o
unfolding told
one_by_one f g lo zero e o h k = absurd (omega arith)
one_by_one {X} f g lo (suc n) e o h k =
    let e0 : f lo ≡ g lo = cc in
    let e1 : told f (suc lo) n ≡ told g (suc lo) n = cc in
    from o lo h (λ z. subst (λ (m : ℕ). f m ≡ g m) (sym z) e0) (λ l. one_by_one f g (suc lo) n e1 o l (omega arith))

-- ---- known operations

unfoldable numbered : List Row → Bool
numbered [] = true
numbered (r ∷ rs) = ltb r.number 76 && numbered rs

no_row : (rs : List Row) (o : ℕ) → numbered rs ≡ true → 76 ≤ o → row_of rs o ≡ none
unfolding row_of numbered
no_row [] o e h = refl
no_row (r ∷ rs) o e h =
    let k = ltb-true r.number 76 (and_l (ltb r.number 76) (numbered rs) e) in
    rw (ne_eqb r.number o (λ z. omega arith), row_of) (no_row rs o (and_r (ltb r.number 76) (numbered rs) e) h)

unknown_above : (o : ℕ) → 76 ≤ o → known o ≡ false
unfolding known table numbered
unknown_above o h = rw (no_row table o refl h, known)

pub known-top : (o : ℕ) → known o ≡ true → o ≤ 75
known-top o k = go (leb o 75) refl
  where
    go : (b : Bool) → leb o 75 ≡ b → o ≤ 75
    go true e = leb-true o 75 e
    go false e = let h = leb-false o 75 e in t≢f (sym k ∙ unknown_above o (omega arith))

-- past a gap
pub known_past : (lo n : ℕ) → told known lo n ≡ told (λ o. false) lo n → (o : ℕ) → known o ≡ true → lo ≤ o → lo + n ≤ o
known_past lo n e o k h = go (leb (lo + n) o) refl
  where
    go : (b : Bool) → leb (lo + n) o ≡ b → lo + n ≤ o
    go true z = leb-true (lo + n) o z
    go false z = t≢f (sym k ∙ one_by_one known (λ o. false) lo n e o h (leb-false (lo + n) o z))

pub from_core : (o : ℕ) → known o ≡ true → 16 < o → 20 ≤ o
unfolding known row_of table told
from_core o k h = known_past 17 3 refl o k h

pub from_bitvectors : (o : ℕ) → known o ≡ true → 26 < o → 30 ≤ o
unfolding known row_of table told
from_bitvectors o k h = known_past 27 3 refl o k h

pub from_helpers : (o : ℕ) → known o ≡ true → 56 < o → 60 ≤ o
unfolding known row_of table told
from_helpers o k h = known_past 57 3 refl o k h

pub from_compiled : (o : ℕ) → known o ≡ true → 66 < o → 70 ≤ o
unfolding known row_of table told
from_compiled o k h = known_past 67 3 refl o k h

-- the ranges of the code
abbrev ranged : ℕ → Bool
ranged o =
    (((((leb 1 o && leb o 5) || (leb 10 o && leb o 16)) || (leb 20 o && leb o 26)) || (leb 30 o && leb o 56)) || (leb 60 o && leb o 66)) || (leb 70 o && leb o 75)

unranged_above : (o : ℕ) → 76 ≤ o → ranged o ≡ false
unranged_above o h =
    rw (le-leb 1 o (omega arith), lt-leb o 5 (omega arith), le-leb 10 o (omega arith), lt-leb o 16 (omega arith), le-leb 20 o (omega arith), lt-leb o 26 (omega arith), le-leb 30 o (omega arith), lt-leb o 56 (omega arith), le-leb 60 o (omega arith), lt-leb o 66 (omega arith), le-leb 70 o (omega arith), lt-leb o 75 (omega arith))

pub known_is : (o : ℕ) → ranged o ≡ known o
unfolding known row_of table told
known_is o = go (leb o 75) refl
  where
    go : (b : Bool) → leb o 75 ≡ b → ranged o ≡ known o
    go true e = let h = leb-true o 75 e in one_by_one ranged known 0 76 refl o (omega arith) (omega arith)
    go false e = let h = leb-false o 75 e in unranged_above o (omega arith) ∙ sym (unknown_above o (omega arith))

-- ---- parameters and shapes

pub takes_is : (o : ℕ) → known o ≡ true
    → ((((((((eqb o 2 || eqb o 10) || eqb o 11) || eqb o 16) || eqb o 26) || eqb o 49) || eqb o 56) || eqb o 74) || eqb o 75) ≡ (row o).takes
unfolding row row_of table told
takes_is o k =
    let h = known-top o k in
    one_by_one (λ o. (((((((eqb o 2 || eqb o 10) || eqb o 11) || eqb o 16) || eqb o 26) || eqb o 49) || eqb o 56) || eqb o 74) || eqb o 75) (λ o. (row o).takes) 0 76 refl o (omega arith) (omega arith)

abbrev lists_two : ℕ → Bool
lists_two o =
    (((((leb 21 o && leb o 24) || (leb 31 o && leb o 44)) || (leb 46 o && leb o 48)) || (leb 50 o && leb o 52)) || eqb o 54) || (leb 62 o && leb o 64)

-- the code's decision
abbrev decided : ℕ → Shape
decided o =
    cond ((eqb o 5 || eqb o 15) || eqb o 73) (pairs (sort (eqb o 5)))
    (cond ((eqb o 14 || eqb o 65) || eqb o 66) (run (sorts (eqb o 14) (bool_byte (eqb o 66))))
    (cond ((eqb o 1 || eqb o 2) || eqb o 10) (fixed (sorts false 0))
    (cond ((((eqb o 3 || eqb o 4) || eqb o 11) || eqb o 12) || eqb o 16) (fixed (sorts true 0))
    (cond (lists_two o) (fixed (sorts false 2))
    (cond (eqb o 25) (fixed (sorts false 3))
    (fixed (sorts (eqb o 26) 1)))))))

pub shape_is : (o : ℕ) → known o ≡ true → (row o).shape ≡ decided o
unfolding known row row_of table told
shape_is o k =
    let h = known-top o k in
    let e = one_by_one (λ o. (row o).shape) (λ o. cond (known o) (decided o) (row o).shape) 0 76 refl o (omega arith) (omega arith) in
    rw k at e

-- ---- the tests

module _ (a : Nodes) (xs : List ℕ) where
  pub five_makers : (o : ℕ) → o ≤ 16 → (row o).five a xs ≡ cond ((eqb o 4 || eqb o 11) || eqb o 14) ((row o).five a xs) false
  unfolding row row_of table told
  five_makers o h =
      one_by_one (λ o. (row o).five a xs) (λ o. cond ((eqb o 4 || eqb o 11) || eqb o 14) ((row o).five a xs) false) 0 17 refl o (omega arith) (omega arith)

  pub five_core : (o : ℕ) → 20 ≤ o → o ≤ 23 → (row o).five a xs ≡ not_bools a xs
  unfolding row row_of table told
  five_core o l h = one_by_one (λ o. (row o).five a xs) (λ o. not_bools a xs) 20 4 refl o l (omega arith)

  -- ite, its operands by place
  pub five_ite : (row 25).five a xs ≡ (not_of a 0 (#0 xs) || not_of a (type_at a (get_or xs 1 0)) (get_or xs 2 0))
  unfolding row row_of table
  five_ite = go xs
    where
      go : (xs : List ℕ) → (row 25).five a xs ≡ (not_of a 0 (#0 xs) || not_of a (type_at a (get_or xs 1 0)) (get_or xs 2 0))
      go [] = refl
      go (x ∷ r) = refl

  pub five_bitvectors : (o : ℕ) → 30 ≤ o → o ≤ 49 → (row o).five a xs ≡ cond ((eqb o 30 || eqb o 45) || eqb o 49) (first_not 2 a xs) (not_alike 2 a xs)
  unfolding row row_of table told
  five_bitvectors o l h =
      one_by_one (λ o. (row o).five a xs) (λ o. cond ((eqb o 30 || eqb o 45) || eqb o 49) (first_not 2 a xs) (not_alike 2 a xs)) 30 20 refl o l (omega arith)

  pub five_data : (o : ℕ) → 50 ≤ o → o ≤ 56 → (row o).five a xs ≡ cond (((eqb o 50 || eqb o 53) || eqb o 55) || eqb o 56) ((row o).five a xs) (not_alike 4 a xs)
  unfolding row row_of table told
  five_data o l h =
      one_by_one (λ o. (row o).five a xs) (λ o. cond (((eqb o 50 || eqb o 53) || eqb o 55) || eqb o 56) ((row o).five a xs) (not_alike 4 a xs)) 50 7 refl o l (omega arith)

  pub five_helpers : (o : ℕ) → 60 ≤ o → o ≤ 66
      → (row o).five a xs ≡ cond (eqb o 65 || eqb o 66) ((row o).five a xs) (cond (eqb o 62 || eqb o 63) (not_of a 0 (#0 xs)) (first_not 3 a xs))
  unfolding row row_of table told
  five_helpers o l h =
      one_by_one (λ o. (row o).five a xs) (λ o. cond (eqb o 65 || eqb o 66) ((row o).five a xs) (cond (eqb o 62 || eqb o 63) (not_of a 0 (#0 xs)) (first_not 3 a xs))) 60 7 refl o l (omega arith)

  pub five_attribute : (o : ℕ) → 74 ≤ o → o ≤ 75 → (row o).five a xs ≡ first_not 5 a xs
  unfolding row row_of table told
  five_attribute o l h = one_by_one (λ o. (row o).five a xs) (λ o. first_not 5 a xs) 74 2 refl o l (omega arith)

  module _ (p : ℕ) where
    pub six_is : (o : ℕ) → known o ≡ true → (row o).six a p xs ≡ cond (eqb o 2 || eqb o 49) ((row o).six a p xs) false
    unfolding row row_of table told
    six_is o k =
        let h = known-top o k in
        one_by_one (λ o. (row o).six a p xs) (λ o. cond (eqb o 2 || eqb o 49) ((row o).six a p xs) false) 0 76 refl o (omega arith) (omega arith)

    -- in the code's order
    abbrev seven_of : ℕ → Bool
    seven_of o =
        cond (eqb o 5) ((row o).seven a p xs)
        (cond (eqb o 15 || eqb o 73) (large_attributes a p xs)
        (cond (eqb o 10 || eqb o 11) ((row o).seven a p xs)
        (cond ((((eqb o 16 || eqb o 26) || eqb o 56) || eqb o 74) || eqb o 75) (large a p xs) false)))

    pub seven_is : (o : ℕ) → known o ≡ true → (row o).seven a p xs ≡ seven_of o
    unfolding row row_of table told
    seven_is o k =
        let h = known-top o k in
        one_by_one (λ o. (row o).seven a p xs) seven_of 0 76 refl o (omega arith) (omega arith)

    pub eight_is : (o : ℕ) → known o ≡ true → (row o).eight a p xs ≡ cond (eqb o 56 || eqb o 75) (absent_attribute a p xs) false
    unfolding row row_of table told
    eight_is o k =
        let h = known-top o k in
        one_by_one (λ o. (row o).eight a p xs) (λ o. cond (eqb o 56 || eqb o 75) (absent_attribute a p xs) false) 0 76 refl o (omega arith) (omega arith)
