-- Sets of terms: what `sorted` keeps, and that on literals of one type positions tell members as values do.
use mathlib.Core.Path.{◌≡◌, refl, sym, ap, ap₂, ◌∙◌}
use Prim.Native.Nat.{ℕ}
use mathlib.Core.Bool.{Bool, true, false, cond, ◌&&◌, ◌||◌}
use mathlib.Core.Logic.{◌⊎◌, inl, inr}
use mathlib.Core.List.{List, [], ◌∷◌, map}
use lib.Dec.{eqb}
use borrow.Author.Tests.{eq-eqb, eqb-true}
use Rattle.arena.specs.Lists.{all, any, mem?, sorted, common}
use Rattle.arena.specs.Nodes.{Nodes, type_at}
use Rattle.arena.specs.Walks.{is_lit}
use Rattle.arena.specs.WellFormed.{is_term}
use Rattle.arena.specs.Values.{Value, Values, eq_v, insert_v, set_v, mem_v, subset_v, inter_v}
use Rattle.arena.specs.Meaning.{Interp, meaning}
use Rattle.arena.proofs.Bools.{t≢f, or_right, or_cases, or_and_in, or_and_out, both_ways}
use Rattle.arena.proofs.Runs.{all-at, all_cons, all0}
use Rattle.arena.proofs.Rising.{sorted-any}
use Rattle.arena.proofs.Chain.{WF}
use Rattle.arena.proofs.View.{Tm}
use Rattle.arena.proofs.Sets.{eq_v_eq, eq_v_refl, insert-mem, set_ext}
use Rattle.arena.proofs.SetOps.{inter_mem, inter_rising, subset_mem, mem_subset, set_mem, set_rising}
use Rattle.arena.proofs.Canon.{canon}
use Rattle.arena.proofs.Known.{Lit}

-- the set of the values of listed terms does not hang on their order or on duplicates
pub sorted_set : (f : ℕ → Value) (r : List ℕ) → set_v (map f (sorted r)) ≡ set_v (map f r)
sorted_set f r =
    set_ext (set_v (map f (sorted r))) (set_v (map f r)) (set_rising (map f (sorted r))) (set_rising (map f r))
    (λ u. set_mem f u (sorted r) ∙ sorted-any (λ x. eq_v u (f x)) r ∙ sym (set_mem f u r))

module _ (I : Interp) {a : Nodes} (w : WF a) (e : ℕ) where
  abbrev M : ℕ → Value
  M x = meaning I a x

  -- the set of the values
  abbrev S : List ℕ → Values
  S r = set_v (map (meaning I a) r)

  -- a literal of the element type
  abbrev pub Elem : ℕ → Type 0
  Elem x = Tm a e x × Lit a x

  abbrev pub Elems : List ℕ → Type 0
  Elems [] = Unit {0}
  Elems (x ∷ r) = Elem x × Elems r

  pub elems : (r : List ℕ) → all (is_term a) r ≡ true → all (λ x. eqb (type_at a x) e) r ≡ true → all (is_lit a) r ≡ true → Elems r
  elems [] p q l = tt
  elems (x ∷ r) p q l =
      let p' = all-at (is_term a) x r p in
      let q' = all-at (λ x. eqb (type_at a x) e) x r q in
      let l' = all-at (is_lit a) x r l in
      ((record { isterm = p'.0; typed = eqb-true (type_at a x) e q'.0 }, l'.0), elems r p'.1 q'.1 l'.1)

  -- equal values are equal positions
  pub same_lit : (x y : ℕ) → Elem x → Elem y → eq_v (M x) (M y) ≡ eqb x y
  same_lit x y p q =
      both_ways (eq_v (M x) (M y)) (eqb x y)
      (λ h. eq-eqb x y (canon I w x y p.0.isterm q.0.isterm p.1 q.1 (p.0.typed ∙ sym q.0.typed) (eq_v_eq (M x) (M y) h)))
      (λ h. ap (λ (z : ℕ). eq_v (M x) (M z)) (sym (eqb-true x y h)) ∙ eq_v_refl (M x))

  pub mem_lit : (x : ℕ) (r : List ℕ) → Elem x → Elems r → mem_v (M x) (S r) ≡ mem? x r
  unfolding any
  mem_lit x r p q = set_mem (meaning I a) (M x) r ∙ go r q
    where
      go : (r : List ℕ) → Elems r → any (λ y. eq_v (M x) (M y)) r ≡ mem? x r
      go [] q = refl
      go (y ∷ r) q = ap₂ ◌||◌ (same_lit x y p q.0) (go r q.1)

  set_cons : (u : Value) (x : ℕ) (r : List ℕ) → mem_v u (S (x ∷ r)) ≡ (eq_v u (M x) || mem_v u (S r))
  unfolding set_v
  set_cons u x r = insert-mem u (M x) (S r)

  pub subset_lit : (r s : List ℕ) → Elems r → Elems s → subset_v (S r) (S s) ≡ all (λ x. mem? x s) r
  subset_lit r s q p = both_ways (subset_v (S r) (S s)) (all (λ x. mem? x s) r) (λ h. to r q (subset_mem (S r) (S s) h)) (λ h. mem_subset (S r) (S s) (from! r q h))
    where
      to : (r : List ℕ) → Elems r → ((u : Value) → mem_v u (S r) ≡ true → mem_v u (S s) ≡ true) → all (λ x. mem? x s) r ≡ true
      to [] q h = all0 (λ x. mem? x s)
      to (x ∷ r) q h =
          all_cons (λ x. mem? x s) x r
          (sym (mem_lit x s q.0 p) ∙ h (M x) (set_cons (M x) x r ∙ rw (eq_v_refl (M x))))
          (to r q.1 (λ u k. h u (set_cons u x r ∙ or_right (eq_v u (M x)) (mem_v u (S r)) k)))

      from! : (r : List ℕ) → Elems r → all (λ x. mem? x s) r ≡ true → (u : Value) → mem_v u (S r) ≡ true → mem_v u (S s) ≡ true
      from! [] q h u k = t≢f (sym k ∙ unfold set_v mem_v in refl)
      from! (x ∷ r) q h u k =
          let c = all-at (λ x. mem? x s) x r h in
          go c.0 (λ z. from! r q.1 c.1 u z) (or_cases (eq_v u (M x)) (mem_v u (S r)) (sym (set_cons u x r) ∙ k))
        where
          go : mem? x s ≡ true → (mem_v u (S r) ≡ true → mem_v u (S s) ≡ true) → (eq_v u (M x) ≡ true) ⊎ (mem_v u (S r) ≡ true) → mem_v u (S s) ≡ true
          go c ih (inl z) = ap (λ (v : Value). mem_v v (S s)) (eq_v_eq u (M x) z) ∙ mem_lit x s q.0 p ∙ c
          go c ih (inr z) = ih z

  -- the set of the common members is the intersection of the sets
  common-mem : (u : Value) (r s : List ℕ) → Elems r → Elems s → mem_v u (S (common r s)) ≡ (mem_v u (S r) && mem_v u (S s))
  unfolding common set_v mem_v
  common-mem u [] s q p = refl
  common-mem u (x ∷ r) s q p = go (mem? x s) refl (common-mem u r s q.1 p)
    where
      known : eq_v u (M x) ≡ true → (b : Bool) → mem? x s ≡ b → mem_v u (S s) ≡ b
      known h b k = ap (λ (z : Value). mem_v z (S s)) (eq_v_eq u (M x) h) ∙ mem_lit x s q.0 p ∙ k

      go : (b : Bool) → mem? x s ≡ b → mem_v u (S (common r s)) ≡ (mem_v u (S r) && mem_v u (S s))
          → mem_v u (S (cond b (x ∷ common r s) (common r s))) ≡ (mem_v u (insert_v (M x) (S r)) && mem_v u (S s))
      go true k ih =
          insert-mem u (M x) (S (common r s))
          ∙ ap (λ (z : Bool). eq_v u (M x) || z) ih
          ∙ or_and_in (eq_v u (M x)) (mem_v u (S r)) (mem_v u (S s)) (λ h. known h true k)
          ∙ ap (λ (z : Bool). z && mem_v u (S s)) (sym (insert-mem u (M x) (S r)))
      go false k ih =
          ih
          ∙ or_and_out (eq_v u (M x)) (mem_v u (S r)) (mem_v u (S s)) (λ h. known h false k)
          ∙ ap (λ (z : Bool). z && mem_v u (S s)) (sym (insert-mem u (M x) (S r)))

  pub inter_lit : (r s : List ℕ) → Elems r → Elems s → S (common r s) ≡ inter_v (S r) (S s)
  inter_lit r s q p =
      set_ext (S (common r s)) (inter_v (S r) (S s))
      (set_rising (map (meaning I a) (common r s))) (inter_rising (S r) (S s) (set_rising (map (meaning I a) r)))
      (λ u. common-mem u r s q p ∙ sym (inter_mem u (S r) (S s)))
