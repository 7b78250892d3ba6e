-- Finite sets: strictly rising runs of values are equal where their members are.
use mathlib.Core.Path.{◌≡◌, refl, sym, ap, ap₂, ◌∙◌}
use Prim.Native.Nat.{Ordering}
use mathlib.Core.Bool.{Bool, true, false, not, ◌||◌}
use Rattle.arena.specs.Values.{Value, bool, vnone, vsome, Values, vnil, vcons, code, compare_t, compare_v, is_eq, is_lt, eq_v, lt_v, rising_v, insert_v, mem_v, all_v}
use Rattle.arena.proofs.Bools.{t≢f, and_l, and_r, both_ways}
use Rattle.arena.proofs.Order.{code_inj, tree_refl, tree_eq, tree_flip, tree_trans}

is_lt_lem : (o : Ordering) → is_lt o ≡ true → o ≡ Ordering.lt
is_lt_lem Ordering.lt e = refl
is_lt_lem Ordering.eq e = t≢f (sym e)
is_lt_lem Ordering.gt e = t≢f (sym e)

is_eq_lem : (o : Ordering) → is_eq o ≡ true → o ≡ Ordering.eq
is_eq_lem Ordering.lt e = t≢f (sym e)
is_eq_lem Ordering.eq e = refl
is_eq_lem Ordering.gt e = t≢f (sym e)

pub eq_v_eq : (v w : Value) → eq_v v w ≡ true → v ≡ w
unfolding eq_v compare_v
eq_v_eq v w e = code_inj v w (tree_eq (code v) (code w) (is_eq_lem _ e))

pub eq_v_refl : (v : Value) → eq_v v v ≡ true
unfolding eq_v compare_v
eq_v_refl v = ap is_eq (tree_refl (code v))

pub eq_v_ne : (v w : Value) → (v ≡ w → ⊥) → eq_v v w ≡ false
eq_v_ne v w h = go (eq_v v w) refl
  where
    go : (b : Bool) → eq_v v w ≡ b → eq_v v w ≡ false
    go true e = absurd (h (eq_v_eq v w e))
    go false e = e

pub lt_v_trans : (u v w : Value) → lt_v u v ≡ true → lt_v v w ≡ true → lt_v u w ≡ true
unfolding lt_v compare_v
lt_v_trans u v w e f = ap is_lt (tree_trans (code u) (code v) (code w) (is_lt_lem _ e) (is_lt_lem _ f))

pub lt_v_ne : (v w : Value) → lt_v v w ≡ true → eq_v v w ≡ false
unfolding lt_v eq_v
lt_v_ne v w e = ap is_eq (is_lt_lem (compare_v v w) e)

pub data Tri (v w : Value) : Ordering → Type 0 where
  tri_lt : lt_v v w ≡ true → Tri v w Ordering.lt
  tri_eq : v ≡ w → Tri v w Ordering.eq
  tri_gt : lt_v w v ≡ true → Tri v w Ordering.gt

pub tri : (v w : Value) → Tri v w (compare_v v w)
unfolding compare_v lt_v
tri v w = go (compare_v v w) refl
  where
    go : (o : Ordering) → compare_v v w ≡ o → Tri v w o
    go Ordering.lt e = tri_lt (ap is_lt e)
    go Ordering.eq e = tri_eq (code_inj v w (tree_eq (code v) (code w) e))
    go Ordering.gt e = tri_gt (ap is_lt (tree_flip (code v) (code w) e))

-- ---- runs

abbrev pub above : Value → Values → Bool
above v s = all_v (λ w. lt_v v w) s

pub all_v_and : (f : Value → Bool) (v : Value) (s : Values) → f v ≡ true → all_v f s ≡ true → all_v f (vcons v s) ≡ true
unfolding all_v
all_v_and f v s e g = rw e g

pub all_v_head : (f : Value → Bool) (v : Value) (s : Values) → all_v f (vcons v s) ≡ true → f v ≡ true
unfolding all_v
all_v_head f v s e = and_l (f v) (all_v f s) e

pub all_v_tail : (f : Value → Bool) (v : Value) (s : Values) → all_v f (vcons v s) ≡ true → all_v f s ≡ true
unfolding all_v
all_v_tail f v s e = and_r (f v) (all_v f s) e

pub all_v_imp : (f g : Value → Bool) → ((v : Value) → f v ≡ true → g v ≡ true) → (s : Values) → all_v f s ≡ true → all_v g s ≡ true
all_v_imp f g h vnil e = unfold all_v in refl
all_v_imp f g h (vcons v s) e = all_v_and g v s (h v (all_v_head f v s e)) (all_v_imp f g h s (all_v_tail f v s e))

pub rising_tail : (v : Value) (s : Values) → rising_v (vcons v s) ≡ true → rising_v s ≡ true
unfolding rising_v
rising_tail v vnil e = refl
rising_tail v (vcons w r) e = and_r (lt_v v w) (rising_v (vcons w r)) e

pub rising-above : (v : Value) (s : Values) → rising_v (vcons v s) ≡ true → above v s ≡ true
unfolding rising_v all_v
rising-above v vnil e = refl
rising-above v (vcons w r) e =
    let l : lt_v v w ≡ true = and_l (lt_v v w) (rising_v (vcons w r)) e in
    let h = rising-above w r (and_r (lt_v v w) (rising_v (vcons w r)) e) in
    all_v_and (λ w. lt_v v w) w r l (all_v_imp (λ u. lt_v w u) (λ u. lt_v v u) (λ u q. lt_v_trans v w u l q) r h)

pub rising-cons : (v : Value) (s : Values) → above v s ≡ true → rising_v s ≡ true → rising_v (vcons v s) ≡ true
unfolding rising_v
rising-cons v vnil e g = refl
rising-cons v (vcons w r) e g = rw (all_v_head (λ w. lt_v v w) w r e) g

pub above-out : (v : Value) (s : Values) → above v s ≡ true → mem_v v s ≡ false
unfolding mem_v
above-out v vnil e = refl
above-out v (vcons w r) e = rw (lt_v_ne v w (all_v_head (λ w. lt_v v w) w r e)) (above-out v r (all_v_tail (λ w. lt_v v w) w r e))

pub insert_all : (f : Value → Bool) (v : Value) (s : Values) → f v ≡ true → all_v f s ≡ true → all_v f (insert_v v s) ≡ true
unfolding insert_v
insert_all f v vnil e g = all_v_and f v vnil e g
insert_all f v (vcons w r) e g = go (compare_v v w) refl (insert_all f v r e (all_v_tail f w r g))
  where
    go : (o : Ordering) → compare_v v w ≡ o → all_v f (insert_v v r) ≡ true → all_v f (insert_v v (vcons w r)) ≡ true
    go Ordering.lt q ih = rw (q, insert_v) (all_v_and f v (vcons w r) e g)
    go Ordering.eq q ih = rw (q, insert_v) g
    go Ordering.gt q ih = rw (q, insert_v) (all_v_and f w (insert_v v r) (all_v_head f w r g) ih)

pub insert-rising : (v : Value) (s : Values) → rising_v s ≡ true → rising_v (insert_v v s) ≡ true
unfolding insert_v
insert-rising v vnil e = unfold rising_v in refl
insert-rising v (vcons w r) e = go (compare_v v w) refl (tri v w) (insert-rising v r (rising_tail w r e))
  where
    go : (o : Ordering) → compare_v v w ≡ o → Tri v w o → rising_v (insert_v v r) ≡ true → rising_v (insert_v v (vcons w r)) ≡ true
    go Ordering.lt q (tri_lt l) ih =
        rw (q, insert_v) (rising-cons v (vcons w r)
        (all_v_and (λ u. lt_v v u) w r l (all_v_imp (λ u. lt_v w u) (λ u. lt_v v u) (λ u p. lt_v_trans v w u l p) r (rising-above w r e))) e)
    go Ordering.eq q t ih = rw (q, insert_v) e
    go Ordering.gt q (tri_gt l) ih = rw (q, insert_v) (rising-cons w (insert_v v r) (insert_all (λ u. lt_v w u) v r l (rising-above w r e)) ih)

or_swap : (a b c : Bool) → (a || (b || c)) ≡ (b || (a || c))
or_swap true true c = refl
or_swap true false c = refl
or_swap false true c = refl
or_swap false false c = refl

or_twice : (a c : Bool) → (a || c) ≡ (a || (a || c))
or_twice true c = refl
or_twice false c = refl

pub insert-mem : (u v : Value) (s : Values) → mem_v u (insert_v v s) ≡ (eq_v u v || mem_v u s)
unfolding insert_v mem_v
insert-mem u v vnil = refl
insert-mem u v (vcons w r) = go (compare_v v w) refl (tri v w) (insert-mem u v r)
  where
    go : (o : Ordering) → compare_v v w ≡ o → Tri v w o → mem_v u (insert_v v r) ≡ (eq_v u v || mem_v u r)
        → mem_v u (insert_v v (vcons w r)) ≡ (eq_v u v || (eq_v u w || mem_v u r))
    go Ordering.lt q t ih = rw (q, insert_v)
    go Ordering.eq q (tri_eq e) ih = rw (q, insert_v) (rw e (or_twice (eq_v u w) (mem_v u r)))
    go Ordering.gt q t ih = rw (q, insert_v) (rw ih (or_swap (eq_v u w) (eq_v u v) (mem_v u r)))

-- two rising runs with the same members are one
pub set_ext : (s t : Values) → rising_v s ≡ true → rising_v t ≡ true → ((u : Value) → mem_v u s ≡ mem_v u t) → s ≡ t
unfolding mem_v
set_ext vnil vnil e f h = refl
set_ext vnil (vcons w q) e f h = t≢f (sym (rw (eq_v_refl w) at (h w)))
set_ext (vcons v r) vnil e f h = t≢f (rw (eq_v_refl v) at (h v))
set_ext (vcons v r) (vcons w q) e f h =
    go (compare_v v w) (tri v w) (λ k. set_ext r q (rising_tail v r e) (rising_tail w q f) k)
  where
    -- the smaller head is no member of the other run
    out : (v w : Value) (q : Values) → lt_v v w ≡ true → rising_v (vcons w q) ≡ true → mem_v v (vcons w q) ≡ false
    out v w q l f = above-out v (vcons w q)
        (all_v_and (λ u. lt_v v u) w q l (all_v_imp (λ u. lt_v w u) (λ u. lt_v v u) (λ u p. lt_v_trans v w u l p) q (rising-above w q f)))

    here : (v : Value) (r : Values) → mem_v v (vcons v r) ≡ true
    here v r = rw (eq_v_refl v)

    tails : v ≡ w → (u : Value) → mem_v u r ≡ mem_v u q
    tails p u = pick (eq_v u v) refl
      where
        pick : (b : Bool) → eq_v u v ≡ b → mem_v u r ≡ mem_v u q
        pick true g =
            let x : u ≡ v = eq_v_eq u v g in
            rw x (above-out v r (rising-above v r e) ∙ sym (rw p (above-out w q (rising-above w q f))))
        pick false g =
            let k : (eq_v u v || mem_v u r) ≡ (eq_v u w || mem_v u q) = h u in
            let k' : (eq_v u v || mem_v u r) ≡ (eq_v u v || mem_v u q) = k ∙ ap (λ (z : Value). eq_v u z || mem_v u q) (sym p) in
            rw g at k'

    go : (o : Ordering) → Tri v w o → (((u : Value) → mem_v u r ≡ mem_v u q) → r ≡ q) → vcons v r ≡ vcons w q
    go Ordering.lt (tri_lt l) ih = t≢f (sym (here v r) ∙ h v ∙ out v w q l f)
    go Ordering.eq (tri_eq p) ih = ap₂ vcons p (ih (tails p))
    go Ordering.gt (tri_gt l) ih = t≢f (sym (here w q) ∙ sym (h w) ∙ out w v r l e)

-- ---- equality by the sort of value

pub eq_v_sym : (v w : Value) → eq_v v w ≡ eq_v w v
eq_v_sym v w =
    both_ways (eq_v v w) (eq_v w v)
    (λ e. ap (λ (u : Value). eq_v u v) (sym (eq_v_eq v w e)) ∙ eq_v_refl v)
    (λ e. ap (λ (u : Value). eq_v u w) (sym (eq_v_eq w v e)) ∙ eq_v_refl w)

pub eq_v_some : (v w : Value) → eq_v (vsome v) (vsome w) ≡ eq_v v w
unfolding eq_v compare_v compare_t code
eq_v_some v w = refl

pub eq_v_some_none : (v : Value) → eq_v (vsome v) vnone ≡ false
unfolding eq_v compare_v compare_t code
eq_v_some_none v = refl

pub eq_v_true : (b : Bool) → eq_v (bool b) (bool true) ≡ b
unfolding eq_v compare_v compare_t code
eq_v_true true = refl
eq_v_true false = refl

pub eq_v_false : (b : Bool) → eq_v (bool b) (bool false) ≡ not b
unfolding eq_v compare_v compare_t code
eq_v_false true = refl
eq_v_false false = refl
