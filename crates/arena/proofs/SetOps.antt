-- Membership in what the set operations make, and that they make rising runs.
use mathlib.Core.Path.{◌≡◌, refl, sym, ap, ◌∙◌}
use Prim.Native.Nat.{ℕ}
use mathlib.Core.Bool.{Bool, true, false, cond, ◌&&◌, ◌||◌, and_self}
use mathlib.Core.Logic.{◌⊎◌, inl, inr}
use mathlib.Core.List.{List, [], ◌∷◌, map}
use Rattle.arena.specs.Lists.{all, any}
use Rattle.arena.specs.Values.{Value, Values, vnil, vcons, eq_v, lt_v, rising_v, set_v, mem_v, subset_v, inter_v, all_v}
use Rattle.arena.proofs.Bools.{t≢f, and_l, and_r, or_right, or_cases, or_and_in, or_and_out, by_cases}
use Rattle.arena.proofs.Runs.{all-at}
use Rattle.arena.proofs.Sets.{eq_v_eq, eq_v_refl, all_v_and, all_v_head, all_v_tail, rising_tail, rising-above, rising-cons, insert_all, insert-rising, insert-mem, set_ext}

-- ---- intersection

pub inter_mem : (u : Value) (s t : Values) → mem_v u (inter_v s t) ≡ (mem_v u s && mem_v u t)
unfolding inter_v mem_v
inter_mem u vnil t = refl
inter_mem u (vcons v r) t = go (mem_v v t) refl (inter_mem u r t)
  where
    same : (b : Bool) → mem_v v t ≡ b → eq_v u v ≡ true → mem_v u t ≡ b
    same b q e = ap (λ (z : Value). mem_v z t) (eq_v_eq u v e) ∙ q

    go : (b : Bool) → mem_v v t ≡ b → mem_v u (inter_v r t) ≡ (mem_v u r && mem_v u t) → mem_v u (cond b (vcons v (inter_v r t)) (inter_v r t)) ≡ ((eq_v u v || mem_v u r) && mem_v u t)
    go true q ih = ap (λ (x : Bool). eq_v u v || x) ih ∙ or_and_in (eq_v u v) (mem_v u r) (mem_v u t) (same true q)
    go false q ih = ih ∙ or_and_out (eq_v u v) (mem_v u r) (mem_v u t) (same false q)

pub inter_all : (f : Value → Bool) (s t : Values) → all_v f s ≡ true → all_v f (inter_v s t) ≡ true
unfolding inter_v
inter_all f vnil t e = e
inter_all f (vcons v r) t e =
    by_cases (λ (x : Values). all_v f x ≡ true) (mem_v v t) (vcons v (inter_v r t)) (inter_v r t)
    (λ q. all_v_and f v (inter_v r t) (all_v_head f v r e) (inter_all f r t (all_v_tail f v r e)))
    (λ q. inter_all f r t (all_v_tail f v r e))

pub inter_rising : (s t : Values) → rising_v s ≡ true → rising_v (inter_v s t) ≡ true
unfolding inter_v
inter_rising vnil t e = e
inter_rising (vcons v r) t e =
    by_cases (λ (x : Values). rising_v x ≡ true) (mem_v v t) (vcons v (inter_v r t)) (inter_v r t)
    (λ q. rising-cons v (inter_v r t) (inter_all (λ w. lt_v v w) r t (rising-above v r e)) (inter_rising r t (rising_tail v r e)))
    (λ q. inter_rising r t (rising_tail v r e))

pub inter_self : (s : Values) → rising_v s ≡ true → inter_v s s ≡ s
inter_self s h = set_ext (inter_v s s) s (inter_rising s s h) h (λ u. inter_mem u s s ∙ and_self (mem_v u s))

pub inter_nil : (s : Values) → inter_v s vnil ≡ vnil
unfolding inter_v mem_v
inter_nil vnil = refl
inter_nil (vcons v r) = inter_nil r

-- ---- subset: every member of the one is a member of the other

pub subset_mem : (s t : Values) → subset_v s t ≡ true → (u : Value) → mem_v u s ≡ true → mem_v u t ≡ true
unfolding subset_v mem_v
subset_mem vnil t e u h = t≢f (sym h)
subset_mem (vcons v r) t e u h = go (λ k. subset_mem r t (and_r (mem_v v t) (subset_v r t) e) u k) (or_cases (eq_v u v) (mem_v u r) h)
  where
    go : (mem_v u r ≡ true → mem_v u t ≡ true) → (eq_v u v ≡ true) ⊎ (mem_v u r ≡ true) → mem_v u t ≡ true
    go ih (inl q) = ap (λ (z : Value). mem_v z t) (eq_v_eq u v q) ∙ and_l (mem_v v t) (subset_v r t) e
    go ih (inr q) = ih q

pub mem_subset : (s t : Values) → ((u : Value) → mem_v u s ≡ true → mem_v u t ≡ true) → subset_v s t ≡ true
unfolding subset_v mem_v
mem_subset vnil t h = refl
mem_subset (vcons v r) t h =
    rw (h v (rw (eq_v_refl v))) (mem_subset r t (λ u k. h u (or_right (eq_v u v) (mem_v u r) k)))

pub subset_self : (s : Values) → subset_v s s ≡ true
subset_self s = mem_subset s s (λ u h. h)

-- ---- the set of a list of values

pub set_mem : (f : ℕ → Value) (u : Value) (r : List ℕ) → mem_v u (set_v (map f r)) ≡ any (λ x. eq_v u (f x)) r
unfolding set_v any
set_mem f u [] = unfold mem_v in refl
set_mem f u (x ∷ r) = insert-mem u (f x) (set_v (map f r)) ∙ ap (λ (b : Bool). eq_v u (f x) || b) (set_mem f u r)

pub set_rising : (vs : List Value) → rising_v (set_v vs) ≡ true
unfolding set_v
set_rising [] = unfold rising_v in refl
set_rising (v ∷ vs) = insert-rising v (set_v vs) (set_rising vs)

-- a test that all members pass: the list's members pass t and u
pub set_all : (f : Value → Bool) (g : ℕ → Value) (t u : ℕ → Bool) → ((x : ℕ) → t x ≡ true → u x ≡ true → f (g x) ≡ true)
    → (xs : List ℕ) → all t xs ≡ true → all u xs ≡ true → all_v f (set_v (map g xs)) ≡ true
unfolding set_v
set_all f g t u h [] e k = unfold all_v in refl
set_all f g t u h (x ∷ xs) e k =
    let p = all-at t x xs e in let q = all-at u x xs k in
    insert_all f (g x) (set_v (map g xs)) (h x p.0 q.0) (set_all f g t u h xs p.1 q.1)
