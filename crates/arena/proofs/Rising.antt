-- Rising runs of numbers: two with the same members are one; what `sorted` and `fields_of` make rises.
use mathlib.Core.Path.{◌≡◌, refl, sym, ap, ap₂, ◌∙◌, subst}
use Prim.Native.Nat.{ℕ, suc, ◌≤◌}
use native.Mathlib.Omega.{arith}
use mathlib.Core.Bool.{Bool, true, false, cond, ◌||◌}
use mathlib.Core.Logic.{◌⊎◌, inl, inr}
use mathlib.Core.List.{List, [], ◌∷◌}
use lib.ListN.{length}
use lib.Dec.{eqb, leb, ltb}
use borrow.Author.Tests.{ne_eqb, eqb-true, eqb-false, leb-true, leb-false, lt-ltb, ltb-true, ltb-false}
use Rattle.arena.specs.Lists.{all, any, mem?, rising, insert, sorted, common}
use Rattle.arena.proofs.Bools.{t≢f, and_l, and_r, by_cases}
use Rattle.arena.proofs.Runs.{all-at, all_cons, all_imp, mem-here, mem-there, mem_cases}

pub rise_tail : (x : ℕ) (r : List ℕ) → rising (x ∷ r) ≡ true → rising r ≡ true
unfolding rising
rise_tail x [] e = refl
rise_tail x (y ∷ r) e = and_r (ltb x y) (rising (y ∷ r)) e

-- nothing at or below the head is in the tail
pub rise_out : (x : ℕ) (r : List ℕ) → rising (x ∷ r) ≡ true → (z : ℕ) → z ≤ x → mem? z r ≡ false
unfolding rising any
rise_out x [] e z h = refl
rise_out x (y ∷ r) e z h =
    let l = ltb-true x y (and_l (ltb x y) (rising (y ∷ r)) e) in
    rw (ne_eqb z y (λ q. omega arith)) (rise_out y r (and_r (ltb x y) (rising (y ∷ r)) e) z (omega arith))

abbrev pub In : List ℕ → List ℕ → Type 0
In xs ys = (z : ℕ) → mem? z xs ≡ true → mem? z ys ≡ true

-- the tails have the same members, where the heads are one
tail_in : (x : ℕ) (r q : List ℕ) → rising (x ∷ r) ≡ true → In (x ∷ r) (x ∷ q) → In r q
tail_in x r q e h z k = go (mem_cases z x q (h z (mem-there z x r k)))
  where
    go : (z ≡ x) ⊎ (mem? z q ≡ true) → mem? z q ≡ true
    go (inl p) = t≢f (sym k ∙ rise_out x r e z (omega arith))
    go (inr p) = p

-- the head of a run is not below the head of one that holds all of it
head_in : (x y : ℕ) (r q : List ℕ) → rising (y ∷ q) ≡ true → In (x ∷ r) (y ∷ q) → y ≤ x
head_in x y r q e h = go (mem_cases x y q (h x (mem-here x r))) (leb y x) refl
  where
    go : (x ≡ y) ⊎ (mem? x q ≡ true) → (b : Bool) → leb y x ≡ b → y ≤ x
    go p true l = leb-true y x l
    go (inl p) false l = omega arith
    go (inr p) false l = let k = leb-false y x l in t≢f (sym p ∙ rise_out y q e x (omega arith))

pub rise_ext : (xs ys : List ℕ) → rising xs ≡ true → rising ys ≡ true → In xs ys → In ys xs → xs ≡ ys
rise_ext [] [] e f h k = refl
rise_ext [] (y ∷ q) e f h k = t≢f (sym (k y (mem-here y q)) ∙ unfold any in refl)
rise_ext (x ∷ r) [] e f h k = t≢f (sym (h x (mem-here x r)) ∙ unfold any in refl)
rise_ext (x ∷ r) (y ∷ q) e f h k =
    let l = head_in x y r q f h in
    let m = head_in y x q r e k in
    let p : x ≡ y = omega arith in
    ap₂ ◌∷◌ p (rise_ext r q (rise_tail x r e) (rise_tail y q f)
    (tail_in x r q e (subst (λ (z : ℕ). In (x ∷ r) (z ∷ q)) (sym p) h))
    (tail_in y q r f (subst (λ (z : ℕ). In (y ∷ q) (z ∷ r)) p k)))

-- ---- a head below all of a run

pub rise_all : (x : ℕ) (r : List ℕ) → rising (x ∷ r) ≡ true → all (λ y. ltb x y) r ≡ true
unfolding rising all
rise_all x [] e = refl
rise_all x (y ∷ r) e =
    let l = ltb-true x y (and_l (ltb x y) (rising (y ∷ r)) e) in
    rw (and_l (ltb x y) (rising (y ∷ r)) e) (all_imp (λ z. ltb y z) (λ z. ltb x z) (λ z h. let k = ltb-true y z h in lt-ltb x z (omega arith)) r (rise_all y r (and_r (ltb x y) (rising (y ∷ r)) e)))

pub all_rise : (x : ℕ) (r : List ℕ) → all (λ y. ltb x y) r ≡ true → rising r ≡ true → rising (x ∷ r) ≡ true
unfolding rising all
all_rise x [] e h = refl
all_rise x (y ∷ r) e h = rw (and_l (ltb x y) _ e) h

-- ---- the members of a list as a rising run

pub insert-any : (g : ℕ → Bool) (x : ℕ) (r : List ℕ) → any g (insert x r) ≡ (g x || any g r)
unfolding insert any
insert-any g x [] = refl
insert-any g x (y ∷ r) = go (ltb x y) (eqb x y) refl (insert-any g x r)
  where
    twice : (a b : Bool) → (a || b) ≡ (a || (a || b))
    twice true b = refl
    twice false b = refl

    swap : (a b c : Bool) → (a || (b || c)) ≡ (b || (a || c))
    swap true true c = refl
    swap true false c = refl
    swap false b c = refl

    go : (l e : Bool) → eqb x y ≡ e → any g (insert x r) ≡ (g x || any g r)
        → any g (cond l (x ∷ y ∷ r) (cond e (y ∷ r) (y ∷ insert x r))) ≡ (g x || (g y || any g r))
    go true e q ih = refl
    go false true q ih = rw (eqb-true x y q) (twice (g y) (any g r))
    go false false q ih = rw ih (swap (g y) (g x) (any g r))

pub insert_all? : (f : ℕ → Bool) (x : ℕ) (r : List ℕ) → f x ≡ true → all f r ≡ true → all f (insert x r) ≡ true
unfolding insert
insert_all? f x [] h e = all_cons f x [] h e
insert_all? f x (y ∷ r) h e =
    let w = all-at f y r e in
    by_cases (λ (l : List ℕ). all f l ≡ true) (ltb x y) (x ∷ y ∷ r) _ (λ q. all_cons f x (y ∷ r) h e)
    (λ q. by_cases (λ (l : List ℕ). all f l ≡ true) (eqb x y) (y ∷ r) (y ∷ insert x r) (λ q. e)
    (λ q. all_cons f y (insert x r) w.0 (insert_all? f x r h w.1)))

pub insert_rises : (x : ℕ) (r : List ℕ) → rising r ≡ true → rising (insert x r) ≡ true
unfolding insert
insert_rises x [] e = unfold rising in refl
insert_rises x (y ∷ r) e =
    by_cases (λ (l : List ℕ). rising l ≡ true) (ltb x y) (x ∷ y ∷ r) _ (λ q. unfold rising in rw q e)
    (λ q. by_cases (λ (l : List ℕ). rising l ≡ true) (eqb x y) (y ∷ r) (y ∷ insert x r) (λ p. e)
    (λ p.
    let ge = ltb-false x y q in let ne = eqb-false x y p in
    all_rise y (insert x r) (insert_all? (λ z. ltb y z) x r (lt-ltb y x (omega arith)) (rise_all y r e)) (insert_rises x r (rise_tail y r e))))

pub insert-length : (x : ℕ) (r : List ℕ) → length (insert x r) ≤ suc (length r)
unfolding insert
insert-length x [] = omega arith
insert-length x (y ∷ r) =
    by_cases (λ (l : List ℕ). length l ≤ suc (suc (length r))) (ltb x y) (x ∷ y ∷ r) _ (λ q. omega arith)
    (λ q. by_cases (λ (l : List ℕ). length l ≤ suc (suc (length r))) (eqb x y) (y ∷ r) (y ∷ insert x r) (λ p. omega arith)
    (λ p. let h = insert-length x r in omega arith))

-- the same members
pub sorted-any : (g : ℕ → Bool) (r : List ℕ) → any g (sorted r) ≡ any g r
unfolding sorted any
sorted-any g [] = refl
sorted-any g (x ∷ r) = insert-any g x (sorted r) ∙ ap (λ (b : Bool). g x || b) (sorted-any g r)

pub sorted_all : (f : ℕ → Bool) (r : List ℕ) → all f r ≡ true → all f (sorted r) ≡ true
unfolding sorted
sorted_all f [] e = e
sorted_all f (x ∷ r) e = let w = all-at f x r e in insert_all? f x (sorted r) w.0 (sorted_all f r w.1)

pub sorted-rising : (r : List ℕ) → rising (sorted r) ≡ true
unfolding sorted
sorted-rising [] = unfold rising in refl
sorted-rising (x ∷ r) = insert_rises x (sorted r) (sorted-rising r)

pub sorted-length : (r : List ℕ) → length (sorted r) ≤ length r
unfolding sorted
sorted-length [] = omega arith
sorted-length (x ∷ r) = let h = insert-length x (sorted r) in let k = sorted-length r in omega arith

-- ---- a part of a run rises, is no longer, and passes the same tests

pub common-all : (f : ℕ → Bool) (r s : List ℕ) → all f r ≡ true → all f (common r s) ≡ true
unfolding common
common-all f [] s e = e
common-all f (x ∷ r) s e =
    let w = all-at f x r e in
    by_cases (λ (l : List ℕ). all f l ≡ true) (mem? x s) (x ∷ common r s) (common r s)
    (λ q. all_cons f x (common r s) w.0 (common-all f r s w.1)) (λ q. common-all f r s w.1)

pub common-length : (r s : List ℕ) → length (common r s) ≤ length r
unfolding common
common-length [] s = omega arith
common-length (x ∷ r) s =
    let h = common-length r s in
    by_cases (λ (l : List ℕ). length l ≤ suc (length r)) (mem? x s) (x ∷ common r s) (common r s) (λ q. omega arith) (λ q. omega arith)

pub common-rising : (r s : List ℕ) → rising r ≡ true → rising (common r s) ≡ true
unfolding common
common-rising [] s e = e
common-rising (x ∷ r) s e =
    by_cases (λ (l : List ℕ). rising l ≡ true) (mem? x s) (x ∷ common r s) (common r s)
    (λ q. all_rise x (common r s) (common-all (λ y. ltb x y) r s (rise_all x r e)) (common-rising r s (rise_tail x r e)))
    (λ q. common-rising r s (rise_tail x r e))
