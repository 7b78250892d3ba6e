-- One turn of a loop over a run of numbers: what the rest of the run says, at i and after it.
use borrow.Author.Tests.{eq-eqb, ne_eqb}
use mathlib.Core.Path.{◌≡◌, refl, ap, ◌∙◌}
use Prim.Native.Nat.{ℕ, zero, suc, ◌+◌, ◌≤◌, ◌<◌}
use native.Mathlib.Omega.{arith}
use mathlib.Core.Bool.{Bool, true, false, ◌&&◌}
use mathlib.Core.List.{List, [], ◌∷◌}
use lib.ListN.{length, drop, get_or, length-drop, drop_of_length-le}
use lib.Seq.{drop-cons}
use lib.Pointwise.{pointwise}
use lib.Dec.{eqb}
use Rattle.arena.specs.Lists.{all, any, same_list}

pub two : (l : List ℕ) (i : ℕ) → i + 1 < length l → drop i l ≡ get_or l i 0 ∷ get_or l (i + 1) 0 ∷ drop (i + 2) l
two l i h =
    let e1 : suc i ≡ i + 1 = omega arith in
    let e2 : suc (i + 1) ≡ i + 2 = omega arith in
    drop-cons l i 0 (omega arith) ∙ ap (λ (j : ℕ). get_or l i 0 ∷ drop j l) e1
    ∙ ap (λ (r : List ℕ). get_or l i 0 ∷ r) (drop-cons l (i + 1) 0 h ∙ ap (λ (j : ℕ). get_or l (i + 1) 0 ∷ drop j l) e2)

pub one : (l : List ℕ) (i : ℕ) → i < length l → drop i l ≡ get_or l i 0 ∷ drop (i + 1) l
one l i h = let e1 : suc i ≡ i + 1 = omega arith in drop-cons l i 0 h ∙ ap (λ (j : ℕ). get_or l i 0 ∷ drop j l) e1

-- at most one is left
pub data Few : List ℕ → Type 0 where
  f0 : Few []
  f1 : (x : ℕ) → Few (x ∷ [])

pub few : (l : List ℕ) (i : ℕ) → length l ≤ i + 1 → Few (drop i l)
few l i h = go (drop i l) (let e = length-drop i l in omega arith)
  where
    go : (r : List ℕ) → length r ≤ 1 → Few r
    go [] k = f0
    go (x ∷ []) k = f1 x
    go (x ∷ y ∷ r) k = absurd (omega arith)

-- ---- all pass, any passes

module _ (f : ℕ → Bool) (l : List ℕ) (i : ℕ) where
  pub all_hit : i < length l → f (get_or l i 0) ≡ true → all f (drop i l) ≡ all f (drop (i + 1) l)
  unfolding all
  all_hit h e = rw (one l i h, e)

  pub all_miss : i < length l → f (get_or l i 0) ≡ false → all f (drop i l) ≡ false
  unfolding all
  all_miss h e = rw (one l i h, e)

  pub all_end : length l ≤ i → all f (drop i l) ≡ true
  unfolding all
  all_end h = rw (drop_of_length-le l {i = i} h)

  pub any_hit : i < length l → f (get_or l i 0) ≡ true → any f (drop i l) ≡ true
  unfolding any
  any_hit h e = rw (one l i h, e)

  pub any_miss : i < length l → f (get_or l i 0) ≡ false → any f (drop i l) ≡ any f (drop (i + 1) l)
  unfolding any
  any_miss h e = rw (one l i h, e)

  pub any_end : length l ≤ i → any f (drop i l) ≡ false
  unfolding any
  any_end h = rw (drop_of_length-le l {i = i} h)

-- ---- two runs

module _ (a b : List ℕ) where
  pub list_hit : (i : ℕ) → i < length a → i < length b → get_or a i 0 ≡ get_or b i 0 → same_list (drop i a) (drop i b) ≡ same_list (drop (i + 1) a) (drop (i + 1) b)
  unfolding same_list
  list_hit i h k e = rw (one a i h, one b i k, eq-eqb _ _ e)

  pub list_miss : (i : ℕ) → i < length a → i < length b → (get_or a i 0 ≡ get_or b i 0 → ⊥) → same_list (drop i a) (drop i b) ≡ false
  unfolding same_list
  list_miss i h k e = rw (one a i h, one b i k, ne_eqb _ _ e)

  pub list_end : (i : ℕ) → length a ≤ i → length b ≤ i → same_list (drop i a) (drop i b) ≡ true
  unfolding same_list
  list_end i h k = rw (drop_of_length-le a {i = i} h, drop_of_length-le b {i = i} k)

-- what `==` answers at slices
pub same_list_is : (a b : List ℕ) → pointwise eqb a b ≡ same_list a b
unfolding same_list
same_list_is [] [] = refl
same_list_is [] (y ∷ ys) = refl
same_list_is (x ∷ xs) [] = refl
same_list_is (x ∷ xs) (y ∷ ys) = ap (λ t. eqb x y && t) (same_list_is xs ys)

pub list_differ : (a b : List ℕ) (i : ℕ) → i < length a → i < length b → (get_or a i 0 ≡ get_or b i 0 → ⊥) → same_list a b ≡ false
unfolding same_list
list_differ [] b i h k e = absurd (omega arith)
list_differ (x ∷ a) [] i h k e = refl
list_differ (x ∷ a) (y ∷ b) zero h k e = rw (ne_eqb x y e)
list_differ (x ∷ a) (y ∷ b) (suc i) h k e = go (eqb x y) (list_differ a b i (omega arith) (omega arith) e)
  where
    go : (t : Bool) → same_list a b ≡ false → (t && same_list a b) ≡ false
    go true z = z
    go false z = refl

pub list_length : (a b : List ℕ) → (length a ≡ length b → ⊥) → same_list a b ≡ false
unfolding same_list
list_length [] [] h = absurd (h refl)
list_length [] (y ∷ b) h = refl
list_length (x ∷ a) [] h = refl
list_length (x ∷ a) (y ∷ b) h = go (eqb x y) (list_length a b (λ z. h (ap suc z)))
  where
    go : (t : Bool) → same_list a b ≡ false → (t && same_list a b) ≡ false
    go true e = e
    go false e = refl
