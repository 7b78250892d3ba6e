-- Lists of numbers: tests of all members, members, fields.
use mathlib.Core.Path.{◌≡◌, refl, sym, ap, ap₂, ◌∙◌, subst}
use Prim.Native.Nat.{ℕ, zero, suc, ◌+◌, ◌*◌, ◌/◌, ◌<◌}
use native.Mathlib.Omega.{arith}
use mathlib.Core.Bool.{Bool, true, false, ◌&&◌, ◌||◌}
use mathlib.Core.Logic.{◌⊎◌, inl, inr}
use mathlib.Core.Option.{Option, none, some}
use mathlib.Core.List.{List, [], ◌∷◌, map}
use lib.ListN.{length, get_or}
use lib.Dec.{eqb}
use borrow.Author.Tests.{eq-eqb, eqb-true}
use Rattle.arena.specs.Lists.{all, any, mem?, same_list, odds, field, field_d, holds_field}
use Rattle.arena.proofs.Bools.{t≢f, none≢some, and_l, and_r, or_right, or_cases}

-- ---- a list of a known length

pub mem0 : (ms : List ℕ) → length ms ≡ 0 → ms ≡ []
mem0 [] e = refl
mem0 (x ∷ r) e = absurd (omega arith)

pub mem1 : (ms : List ℕ) → length ms ≡ 1 → ms ≡ get_or ms 0 0 ∷ []
mem1 [] e = absurd (omega arith)
mem1 (x ∷ r) e = ap (λ (l : List ℕ). x ∷ l) (mem0 r (omega arith))

pub mem2 : (ms : List ℕ) → length ms ≡ 2 → ms ≡ get_or ms 0 0 ∷ get_or ms 1 0 ∷ []
mem2 [] e = absurd (omega arith)
mem2 (x ∷ r) e = ap (λ (l : List ℕ). x ∷ l) (mem1 r (omega arith))

pub mem3 : (ms : List ℕ) → length ms ≡ 3 → ms ≡ get_or ms 0 0 ∷ get_or ms 1 0 ∷ get_or ms 2 0 ∷ []
mem3 [] e = absurd (omega arith)
mem3 (x ∷ r) e = ap (λ (l : List ℕ). x ∷ l) (mem2 r (omega arith))

-- ---- all pass

pub all-at : (f : ℕ → Bool) (x : ℕ) (r : List ℕ) → all f (x ∷ r) ≡ true → (f x ≡ true) × (all f r ≡ true)
unfolding all
all-at f x r e = (and_l (f x) (all f r) e, and_r (f x) (all f r) e)

pub all_cons : (f : ℕ → Bool) (x : ℕ) (r : List ℕ) → f x ≡ true → all f r ≡ true → all f (x ∷ r) ≡ true
unfolding all
all_cons f x r h k = rw h k

pub all0 : (f : ℕ → Bool) → all f [] ≡ true
unfolding all
all0 f = refl

pub all1 : (f : ℕ → Bool) (x : ℕ) → f x ≡ true → all f (x ∷ []) ≡ true
all1 f x h = all_cons f x [] h (all0 f)

pub all2 : (f : ℕ → Bool) (x y : ℕ) → f x ≡ true → f y ≡ true → all f (x ∷ y ∷ []) ≡ true
all2 f x y h k = all_cons f x (y ∷ []) h (all1 f y k)

pub all3 : (f : ℕ → Bool) (x y z : ℕ) → f x ≡ true → f y ≡ true → f z ≡ true → all f (x ∷ y ∷ z ∷ []) ≡ true
all3 f x y z h k l = all_cons f x (y ∷ z ∷ []) h (all2 f y z k l)

pub all_get : (f : ℕ → Bool) (ms : List ℕ) → all f ms ≡ true → (i : ℕ) → i < length ms → f (get_or ms i 0) ≡ true
all_get f [] e i h = absurd (omega arith)
all_get f (x ∷ r) e zero h = (all-at f x r e).0
all_get f (x ∷ r) e (suc i) h = all_get f r (all-at f x r e).1 i (omega arith)

pub all_imp : (f g : ℕ → Bool) → ((x : ℕ) → f x ≡ true → g x ≡ true) → (r : List ℕ) → all f r ≡ true → all g r ≡ true
all_imp f g h [] e = all0 g
all_imp f g h (x ∷ r) e = let p = all-at f x r e in all_cons g x r (h x p.0) (all_imp f g h r p.1)

-- with two tests on the left
pub all_imp2 : (f g k : ℕ → Bool) → ((x : ℕ) → f x ≡ true → g x ≡ true → k x ≡ true) → (r : List ℕ) → all f r ≡ true → all g r ≡ true → all k r ≡ true
all_imp2 f g k h [] e d = all0 k
all_imp2 f g k h (x ∷ r) e d = let p = all-at f x r e in let q = all-at g x r d in all_cons k x r (h x p.0 q.0) (all_imp2 f g k h r p.1 q.1)

-- two functions that agree where a test passes
pub map_agree {ℓ} : {X : Type ℓ} (t : ℕ → Bool) (f g : ℕ → X) → ((x : ℕ) → t x ≡ true → f x ≡ g x) → (r : List ℕ) → all t r ≡ true → map f r ≡ map g r
map_agree t f g h [] e = refl
map_agree t f g h (x ∷ r) e = ap₂ ◌∷◌ (h x (all-at t x r e).0) (map_agree t f g h r (all-at t x r e).1)

pub all_agree : (t f g : ℕ → Bool) → ((x : ℕ) → t x ≡ true → f x ≡ g x) → (r : List ℕ) → all t r ≡ true → all f r ≡ all g r
unfolding all
all_agree t f g h [] e = refl
all_agree t f g h (x ∷ r) e = let p = all-at t x r e in ap₂ ◌&&◌ (h x p.0) (all_agree t f g h r p.1)

-- ---- members

pub mem-here : (x : ℕ) (r : List ℕ) → mem? x (x ∷ r) ≡ true
unfolding any
mem-here x r = rw (eq-eqb x x refl)

pub mem-there : (z x : ℕ) (r : List ℕ) → mem? z r ≡ true → mem? z (x ∷ r) ≡ true
unfolding any
mem-there z x r e = or_right (eqb z x) (mem? z r) e

pub mem_cases : (z x : ℕ) (r : List ℕ) → mem? z (x ∷ r) ≡ true → (z ≡ x) ⊎ (mem? z r ≡ true)
unfolding any
mem_cases z x r e = go (or_cases (eqb z x) (mem? z r) e)
  where
    go : (eqb z x ≡ true) ⊎ (mem? z r ≡ true) → (z ≡ x) ⊎ (mem? z r ≡ true)
    go (inl q) = inl (eqb-true z x q)
    go (inr q) = inr q

pub all-mem : (t : ℕ → Bool) (x : ℕ) (r : List ℕ) → all t r ≡ true → mem? x r ≡ true → t x ≡ true
all-mem t x [] e h = t≢f (sym h ∙ unfold any in refl)
all-mem t x (y ∷ r) e h = go (λ k. all-mem t x r (all-at t y r e).1 k) (mem_cases x y r h)
  where
    go : (mem? x r ≡ true → t x ≡ true) → (x ≡ y) ⊎ (mem? x r ≡ true) → t x ≡ true
    go ih (inl p) = rw p (all-at t y r e).0
    go ih (inr k) = ih k

pub any-find : (g : ℕ → Bool) (r : List ℕ) → any g r ≡ true → (y : ℕ) × (mem? y r ≡ true) × (g y ≡ true)
unfolding any
any-find g [] e = t≢f (sym e)
any-find g (x ∷ r) e = go (λ k. any-find g r k) (g x) refl e
  where
    go : (any g r ≡ true → (y : ℕ) × (mem? y r ≡ true) × (g y ≡ true)) → (b : Bool) → g x ≡ b → (b || any g r) ≡ true
        → (y : ℕ) × (mem? y (x ∷ r) ≡ true) × (g y ≡ true)
    go ih true q h = (x, mem-here x r, q)
    go ih false q h = let z = ih h in (z.0, mem-there z.0 x r z.1, z.2)

pub mem-any : (g : ℕ → Bool) (x : ℕ) (r : List ℕ) → mem? x r ≡ true → g x ≡ true → any g r ≡ true
unfolding any
mem-any g x [] e h = t≢f (sym e)
mem-any g x (y ∷ r) e h = go (λ k. mem-any g x r k h) (mem_cases x y r e)
  where
    go : (mem? x r ≡ true → any g r ≡ true) → (x ≡ y) ⊎ (mem? x r ≡ true) → (g y || any g r) ≡ true
    go ih (inl p) = rw (← p, h)
    go ih (inr k) = or_right (g y) (any g r) (ih k)

-- ---- equal lists

pub same_list_lem : (xs ys : List ℕ) → same_list xs ys ≡ true → xs ≡ ys
unfolding same_list
same_list_lem [] [] e = refl
same_list_lem [] (y ∷ ys) e = t≢f (sym e)
same_list_lem (x ∷ xs) [] e = t≢f (sym e)
same_list_lem (x ∷ xs) (y ∷ ys) e =
    ap₂ ◌∷◌ (eqb-true x y (and_l (eqb x y) (same_list xs ys) e)) (same_list_lem xs ys (and_r (eqb x y) (same_list xs ys) e))

pub same_refl : (xs : List ℕ) → same_list xs xs ≡ true
unfolding same_list
same_refl [] = refl
same_refl (x ∷ r) = rw (eq-eqb x x refl) (same_refl r)

-- ---- fields

pub odds-length : (r : List ℕ) → length (odds r) ≡ length r / 2
unfolding odds
odds-length [] = refl
odds-length (x ∷ []) = refl
odds-length (x ∷ y ∷ r) = let h = odds-length r in omega arith

pub odds-at : (r : List ℕ) (i : ℕ) → i < length (odds r) → get_or (odds r) i 0 ≡ get_or r (2 * i + 1) 0
unfolding odds
odds-at [] i h = absurd (omega arith)
odds-at (x ∷ []) i h = absurd (omega arith)
odds-at (x ∷ y ∷ r) zero h = refl
odds-at (x ∷ y ∷ r) (suc i) h =
    let e : 2 * suc i + 1 ≡ suc (suc (2 * i + 1)) = omega arith in
    odds-at r i (omega arith) ∙ rw e

pub field-holds : (r : List ℕ) (k t : ℕ) → field r k ≡ some t → holds_field r k t ≡ true
unfolding holds_field
field-holds r k t e = rw (e, holds_field) (eq-eqb t t refl)

pub holds-field : (r : List ℕ) (k t : ℕ) → holds_field r k t ≡ true → field r k ≡ some t
unfolding holds_field
holds-field r k t e = go (field r k) refl
  where
    go : (f : Option ℕ) → field r k ≡ f → field r k ≡ some t
    go none q = t≢f (sym e ∙ rw (q, holds_field))
    go (some p) q = q ∙ ap some (eqb-true p t (rw (q, holds_field) at e))

pub field-field_d : (r : List ℕ) (k t : ℕ) → field r k ≡ some t → field_d r k ≡ t
unfolding field_d
field-field_d r k t e = rw (e, field_d)

-- what a field holds passes a test that all pass
pub field-all : (f : ℕ → Bool) (r : List ℕ) (k u : ℕ) → all f (odds r) ≡ true → field r k ≡ some u → f u ≡ true
unfolding odds field
field-all f [] k u h e = none≢some e
field-all f (x ∷ []) k u h e = none≢some e
field-all f (x ∷ y ∷ r) k u h e = go (λ q. field-all f r k u (all-at f y (odds r) h).1 q) (eqb x k) refl
  where
    go : (field r k ≡ some u → f u ≡ true) → (b : Bool) → eqb x k ≡ b → f u ≡ true
    go ih true q = let s : some y ≡ some u = rw (q, field) at e in subst (λ (z : ℕ). f z ≡ true) (cc) (all-at f y (odds r) h).0
    go ih false q = ih (rw (q, field) at e)
