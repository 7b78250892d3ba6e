-- The encoding of a number by groups, and what it stands for. Assumes nothing.
use mathlib.Core.Path.{◌≡◌, refl, ap, ap₂}
use mathlib.Core.Bool.{Bool, true, false, cond}
use mathlib.Core.List.{List, [], ◌∷◌, ◌++◌}
use Prim.Native.Nat.{ℕ, suc, ◌+◌, ◌/◌, ◌%◌, ◌^◌, ◌≤◌, ◌<◌}
use native.Mathlib.Omega.{arith}
use borrow.Author.Tests.{lt-ltb, le-ltb, eqb-true, eq-eqb}
use lib.Dec.{eqb, ltb}
use lib.ListN.{length, drop}
use Rattle.codec.specs.Digits.{digits}
use Rattle.codec.specs.Numbers.{marked, groups, value, run, same}
use Rattle.std.proofs.lemmas.Bool.{and_parts}
use Rattle.codec.proofs.Digits.{digits-small, digits_more, digits_some, digits-most, by_quotient}

marked_more : (g : ℕ) (gs : List ℕ) → 0 < length gs → marked (g ∷ gs) ≡ (128 + g) ∷ marked gs
unfolding marked
marked_more g [] h = absurd (omega arith)
marked_more g (x ∷ gs) h = refl

-- the encoding as a recursion on the quotient by 128
pub groups-small : (n : ℕ) → n < 128 → groups n ≡ n ∷ []
unfolding groups marked
groups-small n h = rw (digits-small 128 n h)

pub groups_more : (n : ℕ) → 128 ≤ n → groups n ≡ (128 + n % 128) ∷ groups (n / 128)
unfolding groups
groups_more n h = rw (digits_more 128 n (omega arith) h) (marked_more (n % 128) (digits 128 (n / 128)) (digits_some 128 (n / 128) (omega arith)))

-- a group is a digit
length_marked : (gs : List ℕ) → length (marked gs) ≡ length gs
unfolding marked
length_marked [] = refl
length_marked (g ∷ []) = refl
length_marked (g ∷ h ∷ gs) = ap suc (length_marked (h ∷ gs))

pub length-groups : (n : ℕ) → length (groups n) ≡ length (digits 128 n)
unfolding groups
length-groups n = length_marked (digits 128 n)

pub value-groups : (n : ℕ) → value (groups n) ≡ n
unfolding value
value-groups =
    by_quotient 128 (omega arith) (λ (n : ℕ). value (groups n) ≡ n)
    (λ n h. rw (groups-small n h) (omega arith))
    (λ n h e. rw (groups_more n h) (omega arith))

-- a group stands at the front of the run that it belongs to
pub run-groups : (bs : List ℕ) (n : ℕ) → run (groups n ++ bs) ≡ groups n
unfolding run
run-groups bs =
    by_quotient 128 (omega arith) (λ (n : ℕ). run (groups n ++ bs) ≡ groups n)
    (λ n h. rw (groups-small n h, lt-ltb n 128 h))
    (λ n h e. rw (groups_more n h, le-ltb (128 + n % 128) 128 (omega arith), e))

pub same_eq : (xs ys : List ℕ) → same xs ys ≡ true → xs ≡ ys
unfolding same
same_eq [] [] e = refl
same_eq [] (y ∷ ys) e = cc
same_eq (x ∷ xs) [] e = cc
same_eq (x ∷ xs) (y ∷ ys) e =
    let both = and_parts (eqb x y) (same xs ys) e in
    ap₂ ◌∷◌ (eqb-true x y both.0) (same_eq xs ys both.1)

pub eq_same : (xs : List ℕ) → same xs xs ≡ true
unfolding same
eq_same [] = refl
eq_same (x ∷ xs) = rw (eq-eqb x x refl, eq_same xs)

-- the run is what the bytes begin with
pub run-front : (bs : List ℕ) → bs ≡ run bs ++ drop (length (run bs)) bs
unfolding run
run-front [] = refl
run-front (b ∷ bs) = ap (◌∷◌ b) (pick (ltb b 128) (run bs) (run-front bs))
  where
    pick : (t : Bool) (r : List ℕ) → bs ≡ r ++ drop (length r) bs → bs ≡ cond t [] r ++ drop (length (cond t [] r)) bs
    pick true r e = refl
    pick false r e = e

pub groups_some : (n : ℕ) → 0 < length (groups n)
groups_some n = rw (length-groups n) (digits_some 128 n (omega arith))

-- at most ten groups
pub groups-most : (n : ℕ) → n < 2 ^ 64 → length (groups n) ≤ 10
groups-most n h = rw (length-groups n) (digits-most 128 (omega arith) 9 n (omega arith))
