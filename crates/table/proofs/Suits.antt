-- What test 4 shows of the operands.
use mathlib.Core.Path.{◌≡◌, refl, sym, ap, ◌∙◌, subst}
use Prim.Native.Nat.{ℕ, zero, suc, ◌+◌, ◌-◌, ◌≤◌, ◌<◌}
use native.Mathlib.Omega.{arith}
use mathlib.Core.Bool.{Bool, true, false, not, ◌&&◌, ◌||◌}
use mathlib.Core.Logic.{◌⊎◌, inl, inr}
use mathlib.Core.List.{List, [], ◌∷◌}
use lib.ListN.{length, replicate, take, drop, length-replicate}
use Rattle.std.proofs.lemmas.Slice.{between_to_end}
use lib.Dec.{eqb, leb, ltb}
use borrow.Author.Tests.{eq-eqb, ne_eqb, eqb-true, leb-true, leb-false, le-leb, lt-leb, lt-ltb, le-ltb, not-false}
use Rattle.arena.specs.Lists.{every, within, all, any, odds}
use Rattle.arena.specs.Nodes.{Nodes, kind_at, type_at, width_at}
use Rattle.arena.specs.WellFormed.{is_type, is_term, Below}
use Rattle.arena.specs.Cells.{used}
use Rattle.arena.proofs.Bools.{t≢f, and_l, and_r, or_cases}
use Rattle.arena.proofs.Chain.{term_type, type-kind}
use Rattle.arena.proofs.Types.{width_range}
use Rattle.arena.proofs.Formed.{wf}
use Rattle.table.specs.Table.{Sort, ty, tm, Shape, fixed, pairs, run, #0, rest, not_of, not_alike, table, row_of, row}
use Rattle.table.specs.Call.{sort_ok, sorts_ok, operands_ok}
use Rattle.table.specs.Forms.{sorts, Terms, Suited}
use Rattle.table.proofs.Numbers.{told, one_by_one}

-- ---- operands in a row

-- these are terms and no more, n of them or more
unfoldable pub only_terms : ℕ → List Sort → Bool
only_terms zero [] = true
only_terms zero (ty ∷ ss) = false
only_terms zero (tm ∷ ss) = only_terms zero ss
only_terms (suc n) [] = false
only_terms (suc n) (ty ∷ ss) = false
only_terms (suc n) (tm ∷ ss) = only_terms n ss

unfoldable pub terms_of : ℕ → Shape → Bool
terms_of n (fixed ss) = only_terms n ss
terms_of n (pairs s) = false
terms_of n (run ss) = only_terms n ss

-- a type and no more before a run
unfoldable pub one_sort : List Sort → Bool
one_sort [] = false
one_sort (ty ∷ []) = true
one_sort (tm ∷ []) = false
one_sort (s ∷ t ∷ ss) = false

unfoldable pub gives_type : Shape → Bool
gives_type (fixed ss) = one_sort ss
gives_type (pairs s) = false
gives_type (run ss) = one_sort ss

module _ (a : Nodes) where
  only_terms_lem : (n : ℕ) (ss : List Sort) (xs : List ℕ) → only_terms n ss ≡ true → sorts_ok a ss xs ≡ true → Terms a n xs
  unfolding only_terms sorts_ok sort_ok all
  only_terms_lem zero [] [] e h = record { many = omega arith; each = refl }
  only_terms_lem zero [] (x ∷ xs) e h = one_more x xs h (only_terms_lem zero [] xs refl)
    where
      one_more : (x : ℕ) (xs : List ℕ) → (is_term a x && sorts_ok a [] xs) ≡ true → (sorts_ok a [] xs ≡ true → Terms a 0 xs) → Terms a 0 (x ∷ xs)
      one_more x xs h k = let r = k (and_r (is_term a x) (sorts_ok a [] xs) h) in record { many = omega arith; each = rw (and_l (is_term a x) (sorts_ok a [] xs) h) r.each }
  only_terms_lem zero (ty ∷ ss) xs e h = t≢f (sym e)
  only_terms_lem zero (tm ∷ ss) [] e h = t≢f (sym h)
  only_terms_lem zero (tm ∷ ss) (x ∷ xs) e h =
      let r = only_terms_lem zero ss xs e (and_r (is_term a x) (sorts_ok a ss xs) h) in
      record { many = omega arith; each = rw (and_l (is_term a x) (sorts_ok a ss xs) h) r.each }
  only_terms_lem (suc n) [] xs e h = t≢f (sym e)
  only_terms_lem (suc n) (ty ∷ ss) xs e h = t≢f (sym e)
  only_terms_lem (suc n) (tm ∷ ss) [] e h = t≢f (sym h)
  only_terms_lem (suc n) (tm ∷ ss) (x ∷ xs) e h =
      let r = only_terms_lem n ss xs e (and_r (is_term a x) (sorts_ok a ss xs) h) in
      let m = r.many in
      record { many = omega arith; each = rw (and_l (is_term a x) (sorts_ok a ss xs) h) r.each }

  pub shape-terms : (n : ℕ) (s : Shape) (xs : List ℕ) → terms_of n s ≡ true → operands_ok a s xs ≡ true → Terms a n xs
  unfolding terms_of operands_ok
  shape-terms n (fixed ss) xs e h = only_terms_lem n ss xs e h
  shape-terms n (pairs s) xs e h = t≢f (sym e)
  shape-terms n (run ss) xs e h = only_terms_lem n ss xs e h

  -- a type comes first
  pub record TypeFirst (xs : List ℕ) : Type 0 where
    pub many : 1 ≤ length xs
    pub first : is_type a (#0 xs) ≡ true
    pub others : all (is_term a) (rest xs) ≡ true

  pub type-first : (xs : List ℕ) → sorts_ok a (ty ∷ []) xs ≡ true → TypeFirst xs
  unfolding sorts_ok sort_ok
  type-first [] h = t≢f (sym h)
  type-first (x ∷ xs) h =
      let r = only_terms_lem 0 [] xs (unfold only_terms in refl) (and_r (is_type a x) (sorts_ok a [] xs) h) in
      record { many = omega arith; first = and_l (is_type a x) (sorts_ok a [] xs) h; others = r.each }

module _ {a : Nodes} {xs : List ℕ} where
  -- of the operations of a range
  in_range : (lo n : ℕ) → told (λ o. terms_of 1 (row o).shape) lo n ≡ told (λ o. true) lo n → (o : ℕ) → lo ≤ o → o < lo + n → Suited a o xs → Terms a 1 xs
  in_range lo n e o l h s =
      shape-terms a 1 (row o).shape xs (one_by_one (λ o. terms_of 1 (row o).shape) (λ o. true) lo n e o l h) s

  pub core_terms : (o : ℕ) → 20 ≤ o → o ≤ 25 → Suited a o xs → Terms a 1 xs
  unfolding row row_of table told terms_of only_terms
  core_terms o l h = in_range 20 6 refl o l (omega arith)

  pub plain-terms : (o : ℕ) → 30 ≤ o → o ≤ 56 → Suited a o xs → Terms a 1 xs
  unfolding row row_of table told terms_of only_terms
  plain-terms o l h = in_range 30 27 refl o l (omega arith)

  pub helper_terms : (o : ℕ) → 60 ≤ o → o ≤ 64 → Suited a o xs → Terms a 1 xs
  unfolding row row_of table told terms_of only_terms
  helper_terms o l h = in_range 60 5 refl o l (omega arith)

  pub compiled_terms : (o : ℕ) → 70 ≤ o → o ≤ 72 → Suited a o xs → Terms a 1 xs
  unfolding row row_of table told terms_of only_terms
  compiled_terms o l h = in_range 70 3 refl o l (omega arith)

  pub attribute_terms : (o : ℕ) → 74 ≤ o → o ≤ 75 → Suited a o xs → Terms a 1 xs
  unfolding row row_of table told terms_of only_terms
  attribute_terms o l h = in_range 74 2 refl o l (omega arith)

  -- where an attribute is looked up
  pub field-terms : (o : ℕ) → (eqb o 56 || eqb o 75) ≡ true → Suited a o xs → Terms a 1 xs
  field-terms o e s = go (or_cases (eqb o 56) (eqb o 75) e)
    where
      go : (eqb o 56 ≡ true) ⊎ (eqb o 75 ≡ true) → Terms a 1 xs
      go (inl z) = let k = eqb-true o 56 z in plain-terms o (omega arith) (omega arith) s
      go (inr z) = let k = eqb-true o 75 z in attribute_terms o (omega arith) (omega arith) s

  -- the type given to 4, 11 or 14
  pub type-at : (o m : ℕ) → o ≡ m → gives_type (row m).shape ≡ true → Suited a o xs → TypeFirst a xs
  unfolding gives_type one_sort operands_ok
  type-at o m e t s = go (row m).shape t (subst (λ (z : ℕ). Suited a z xs) e s)
    where
      one : (ss : List Sort) → one_sort ss ≡ true → sorts_ok a ss xs ≡ true → TypeFirst a xs
      one [] t h = t≢f (sym t)
      one (ty ∷ []) t h = type-first a xs h
      one (tm ∷ []) t h = t≢f (sym t)
      one (s ∷ u ∷ ss) t h = t≢f (sym t)

      go : (s : Shape) → gives_type s ≡ true → operands_ok a s xs ≡ true → TypeFirst a xs
      go (fixed ss) t h = one ss t h
      go (pairs s) t h = t≢f (sym t)
      go (run ss) t h = one ss t h

  -- of one operation
  pub terms-at : (o m n : ℕ) → o ≡ m → terms_of n (row m).shape ≡ true → Suited a o xs → Terms a n xs
  terms-at o m n e t s = shape-terms a n (row m).shape xs t (subst (λ (z : ℕ). Suited a z xs) e s)

-- what a compiled record's fields hold
pub record_terms : (a : Nodes) (xs : List ℕ) (o : ℕ) → o ≡ 73 → Suited a o xs → all (is_term a) (odds xs) ≡ true
unfolding row row_of table operands_ok sort_ok
record_terms a xs o e s = subst (λ (z : ℕ). Suited a z xs) e s

-- ---- what test 4 says, run by run

module _ (a : Nodes) where
  few : (ss : List Sort) (xs : List ℕ) → length xs < length ss → false ≡ sorts_ok a ss xs
  unfolding sorts_ok
  few [] xs h = absurd (omega arith)
  few (s ∷ ss) [] h = refl
  few (s ∷ ss) (x ∷ xs) h = go (sort_ok a s x) (few ss xs (omega arith))
    where
      go : (b : Bool) → false ≡ sorts_ok a ss xs → false ≡ (b && sorts_ok a ss xs)
      go true e = e
      go false e = refl

  terms : (n : ℕ) (xs : List ℕ) → n ≤ length xs → all (is_term a) xs ≡ sorts_ok a (replicate n tm) xs
  unfolding sorts_ok sort_ok all
  terms zero [] h = refl
  terms zero (x ∷ xs) h = ap (λ (b : Bool). is_term a x && b) (terms zero xs (omega arith))
  terms (suc n) [] h = absurd (omega arith)
  terms (suc n) (x ∷ xs) h = ap (λ (b : Bool). is_term a x && b) (terms n xs (omega arith))

  typed : (n : ℕ) (xs : List ℕ) → suc n ≤ length xs → (is_type a (#0 xs) && all (is_term a) (rest xs)) ≡ sorts_ok a (ty ∷ replicate n tm) xs
  unfolding sorts_ok sort_ok
  typed n [] h = absurd (omega arith)
  typed n (x ∷ xs) h = ap (λ (b : Bool). is_type a x && b) (terms n xs (omega arith))

  -- k operands are asked for
  module _ (b : Bool) (n k : ℕ) (xs : List ℕ) (e : k ≡ length (sorts b n)) where
    pub sorts_few : length xs < k → false ≡ sorts_ok a (sorts b n) xs
    sorts_few h = few (sorts b n) xs (omega arith)

    pub sorts-terms : b ≡ false → k ≤ length xs → all (is_term a) xs ≡ sorts_ok a (sorts b n) xs
    sorts-terms f h = go b f e
      where
        go : (b : Bool) → b ≡ false → k ≡ length (sorts b n) → all (is_term a) xs ≡ sorts_ok a (sorts b n) xs
        go true f e = t≢f f
        go false f e = let l = length-replicate n tm in terms n xs (omega arith)

    pub sorts-one : b ≡ true → k ≤ length xs → 1 ≤ length xs
    sorts-one t h = go b t e
      where
        go : (b : Bool) → b ≡ true → k ≡ length (sorts b n) → 1 ≤ length xs
        go true t e = omega arith
        go false t e = t≢f (sym t)

    pub sorts-typed : b ≡ true → k ≤ length xs → (is_type a (#0 xs) && all (is_term a) (rest xs)) ≡ sorts_ok a (sorts b n) xs
    sorts-typed t h = go b t e
      where
        go : (b : Bool) → b ≡ true → k ≡ length (sorts b n) → (is_type a (#0 xs) && all (is_term a) (rest xs)) ≡ sorts_ok a (sorts b n) xs
        go true t e = let l = length-replicate n tm in typed n xs (omega arith)
        go false t e = t≢f (sym t)

-- ---- terms of one type

-- `&xs[1..]`
pub rest_cut : (xs : List ℕ) → take (length xs - 1) (drop 1 xs) ≡ rest xs
rest_cut xs = between_to_end xs 1 (length xs) (omega arith)

pub terms-rest : {a : Nodes} (xs : List ℕ) → Terms a 1 xs → all (is_term a) (rest xs) ≡ true
unfolding all
terms-rest [] t = refl
terms-rest {a} (x ∷ xs) t = and_r (is_term a x) (all (is_term a) xs) t.each

module _ (a : Nodes) (k : ℕ) (xs : List ℕ) where
  pub kind_differs : (kind_at a (type_at a (#0 xs)) ≡ k → ⊥) → true ≡ not_alike k a xs
  kind_differs h = rw (ne_eqb (kind_at a (type_at a (#0 xs))) k h)

  -- the first is of its own type
  pub rest_differs : kind_at a (type_at a (#0 xs)) ≡ k → 1 ≤ length xs → any (not_of a (type_at a (#0 xs))) (rest xs) ≡ not_alike k a xs
  rest_differs h l = rw (eq-eqb (kind_at a (type_at a (#0 xs))) k h) (go xs l)
    where
      go : (xs : List ℕ) → 1 ≤ length xs → any (not_of a (type_at a (#0 xs))) (rest xs) ≡ any (not_of a (type_at a (#0 xs))) xs
      go [] l = absurd (omega arith)
      go (x ∷ r) l = unfold any in rw (eq-eqb (type_at a x) (type_at a x) refl)

-- ---- a term's type is a node

pub type_pos : {c : List ℕ} {m : ℕ} → Below c m → (x : ℕ) → is_term (used c m) x ≡ true → 1 ≤ kind_at (used c m) (type_at (used c m) x)
type_pos {c} {m} b x h = (type-kind (used c m) (type_at (used c m) x) (term_type (wf b).chain x h)).0

-- ---- widths and literals

-- the operand of 49, past test 5
pub width_small : {c : List ℕ} {m : ℕ} → Below c m → (o : ℕ) (xs : List ℕ) → o ≡ 49 → (row o).five (used c m) xs ≡ false → width_at (used c m) (#0 xs) ≤ 64
unfolding row row_of table
width_small {c} {m} b o xs e h =
    let a = used c m in
    let z : not (eqb (kind_at a (type_at a (#0 xs))) 2) ≡ false = subst (λ (z : ℕ). (row z).five a xs ≡ false) e h in
    (width_range (wf b).chain (type_at a (#0 xs)) (eqb-true (kind_at a (type_at a (#0 xs))) 2 (not-false (eqb (kind_at a (type_at a (#0 xs))) 2) z))).1

-- a width given
pub width_off : (p : ℕ) → p < 1 → ltb p 1 ≡ not (within 1 64 p)
unfolding every
width_off p h = rw (lt-ltb p 1 h, lt-leb 1 p h)

pub width_on : (p : ℕ) → 1 ≤ p → ltb 64 p ≡ not (within 1 64 p)
unfolding every
width_on p h = rw (le-leb 1 p h) (go (leb p 64) refl)
  where
    go : (b : Bool) → leb p 64 ≡ b → ltb 64 p ≡ not (b && true)
    go true e = le-ltb 64 p (leb-true p 64 e)
    go false e = lt-ltb 64 p (leb-false p 64 e)

pub wider : (w p : ℕ) → w ≤ 64 → ltb (64 - w) p ≡ ltb 64 (w + p)
wider w p h = go (leb p (64 - w)) refl
  where
    go : (b : Bool) → leb p (64 - w) ≡ b → ltb (64 - w) p ≡ ltb 64 (w + p)
    go true e = let k = leb-true p (64 - w) e in le-ltb (64 - w) p k ∙ sym (le-ltb 64 (w + p) (omega arith))
    go false e = let k = leb-false p (64 - w) e in lt-ltb (64 - w) p k ∙ sym (lt-ltb 64 (w + p) (omega arith))

pub not_below : (v n : ℕ) → not (ltb v n) ≡ leb n v
not_below v n = go (leb n v) refl
  where
    go : (b : Bool) → leb n v ≡ b → not (ltb v n) ≡ leb n v
    go true e = ap not (le-ltb v n (leb-true n v e)) ∙ sym e
    go false e = ap not (lt-ltb v n (leb-false n v e)) ∙ sym e
