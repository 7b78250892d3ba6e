-- The laws of the set operations: 50 member, 51 subset, 52 inter, 53 is_empty, 54 intersects.
use mathlib.Core.Path.{◌≡◌, refl, sym, ap, ap₂, ◌∙◌, subst}
use Prim.Native.Nat.{ℕ, Ordering}
use native.Mathlib.Omega.{arith}
use mathlib.Core.Bool.{true, false, ◌&&◌}
use mathlib.Core.Logic.{inr}
use mathlib.Core.List.{List, [], ◌∷◌, map}
use lib.ListN.{get_or}
use lib.Dec.{eqb}
use borrow.Author.Tests.{eqb-true}
use Rattle.arena.specs.Lists.{all, mem?, rising, common}
use Rattle.arena.specs.Nodes.{node, Nodes, kind_at, type_at, mem_at, elem_at, positions, put}
use Rattle.arena.specs.Walks.{ruled, lit_rule, is_lit}
use Rattle.arena.specs.WellFormed.{is_term}
use Rattle.arena.specs.Values.{Ty, tbool, tset, Value, bool, vset, Values, vnil, vcons, code, compare_t, compare_v, eq_v, insert_v, set_v, mem_v, subset_v, inter_v, as_bool, as_set}
use Rattle.arena.specs.Meaning.{ty_of, Interp, Good, maker_means, data_means, term, mean_node, meaning}
use Rattle.arena.proofs.Bools.{t≢f, and_l, and_r}
use Rattle.arena.proofs.Runs.{all0}
use Rattle.arena.proofs.Chain.{WF}
use Rattle.arena.proofs.View.{Tm, is_sett, is_mem, is_sub, is_int}
use Rattle.arena.proofs.Types.{ty_bool}
use Rattle.arena.proofs.Whole.{elem_type}
use Rattle.arena.proofs.SetOps.{inter_self, inter_nil, subset_self}
use Rattle.arena.proofs.Sound.{set_at}
use Rattle.arena.proofs.Rising.{common-all, common-length, common-rising}
use Rattle.arena.proofs.Known.{Lit, set_node, lit_set}
use Rattle.arena.proofs.LitSets.{Elems, elems, mem_lit, subset_lit, inter_lit}
use Rattle.factory.specs.SetSteps.{is_set, is_nil, empty_at, both_sets, set_member, set_subset, set_inter, set_is_empty, not_empty, set_intersects}
use Rattle.factory.specs.Meanings.{means50, means51, means52, empty_v, means53, means54}
use Rattle.factory.proofs.Law.{Typed, typed_tm, same_tm, set_kind, set_elem, typed_ext, mean_old, lit_old, Law, stay, added, applied, reads, onward, law_if}
use Rattle.factory.proofs.Made.{says}
use Rattle.factory.proofs.Logic.{not_law}
use Rattle.factory.proofs.Equal.{eq_law}

-- ---- empty sets

nil_of : (r : List ℕ) → is_nil r ≡ true → r ≡ []
unfolding is_nil
nil_of [] e = refl
nil_of (x ∷ r) e = t≢f (sym e)

insert_some : (v : Value) (s : Values) → false ≡ empty_v (insert_v v s)
unfolding insert_v empty_v
insert_some v vnil = refl
insert_some v (vcons u r) = go (compare_v v u)
  where
    go : (o : Ordering) → false ≡ empty_v (elim o [ Ordering.lt ↦ vcons v (vcons u r) | Ordering.eq ↦ vcons u r | Ordering.gt ↦ vcons u (insert_v v r) ])
    go Ordering.lt = refl
    go Ordering.eq = refl
    go Ordering.gt = refl

listed_empty : (f : ℕ → Value) (r : List ℕ) → is_nil r ≡ empty_v (set_v (map f r))
unfolding is_nil set_v empty_v
listed_empty f [] = refl
listed_empty f (x ∷ r) = insert_some (f x) (set_v (map f r))

eq_empty : (s : Values) → eq_v (vset s) (vset vnil) ≡ empty_v s
unfolding eq_v compare_v compare_t code empty_v
eq_empty vnil = refl
eq_empty (vcons v r) = refl

-- ---- a set term

module _ {a : Nodes} (w : WF a) {y : Ty} (s : ℕ) (m : Typed a (tset y) s) where
  own : Tm a (type_at a s) s
  own = record { isterm = m.isterm; typed = refl }

  -- its members, where it is a set node
  members : (I : Interp) → is_set a s ≡ true → as_set (meaning I a s) ≡ set_v (map (meaning I a) (mem_at a s))
  unfolding as_set
  members I e = rw ((set_node w s (eqb-true (kind_at a s) 20 e)).means I)

  -- and literals of the element type, where it is a literal
  literals : (I : Interp) → is_set a s ≡ true → Lit a s → Elems I w (elem_at a s) (mem_at a s)
  literals I e l =
      let n = set_node w s (eqb-true (kind_at a s) 20 e) in
      elems I w (elem_at a s) (mem_at a s) n.terms n.types (sym n.lits ∙ l)

  lit_is_set : Lit a s → is_set a s ≡ true
  lit_is_set l = rw (lit_set w (type_at a s) s own l (set_kind w m))

  empty : (I : Interp) → empty_at a s ≡ true → as_set (meaning I a s) ≡ vnil
  unfolding set_v
  empty I e = members I (and_l _ _ e) ∙ ap (λ (r : List ℕ). set_v (map (meaning I a) r)) (nil_of (mem_at a s) (and_r (is_set a s) _ e))

  -- it means a set
  form : (I : Interp) → Good I → vset (as_set (meaning I a s)) ≡ meaning I a s
  form I G = (set_at I G w (type_at a s) s (set_kind w m) own).form

  -- ---- 50 member

  pub member_law : (t : ℕ) → Typed a y t → Law a (Lit a t × Lit a s) tbool (λ I. means50 (meaning I a t) (meaning I a s)) (set_member a t s)
  unfolding set_member mem_v mean_node term data_means positions
  member_law t k =
      let k' : Tm a (elem_at a s) t = typed_tm w (elem_type w (type_at a s) (inr (set_kind w m))) (record { isterm = k.isterm; typed = k.typed ∙ sym (set_elem w m) }) in
      law_if (empty_at a s) _ _
      (λ e. says w false (λ I G. ap (λ (r : Values). bool (mem_v (meaning I a t) r)) (sym (empty I e))))
      (λ e1. law_if (is_set a s && (is_lit a t && is_lit a s)) _ _
      (λ e. let e' = and_r (is_set a s) _ e in
      says w (mem? t (mem_at a s)) (λ I G. ap bool (sym (ap (mem_v (meaning I a t)) (members I (and_l _ _ e))
      ∙ mem_lit I w (elem_at a s) t (mem_at a s) (k', and_l _ _ e') (literals I (and_l _ _ e) (and_r (is_lit a t) _ e'))))))
      (λ e2. applied (node 150 0 0 (t ∷ s ∷ [])) w (omega arith) (is_mem (type_at a s) t s (set_kind w m) k' own) (ty_bool w.base)
      (λ l. t≢f (sym (rw (lit_is_set l.1, l.0, l.1)) ∙ e2))))

  -- ---- 53 is_empty

  -- the literal empty set of its type
  pub empty_law : (t : ℕ) → t ≡ type_at a s → Law a (Unit {0}) (tset y) (λ I. vset vnil) (put a (node 20 t 0 []))
  unfolding mean_node term maker_means positions set_v ruled lit_rule all
  empty_law t e =
      added (node 20 t 0 []) w (omega arith) (is_sett t [] (ap (kind_at a) e ∙ set_kind w m) (omega arith) (unfold rising in refl) (all0 (is_term a)) refl) (ap (ty_of a) e ∙ m.typed) (λ x. refl)

  pub is_empty_law : Law a (Lit a s) tbool (λ I. means53 (meaning I a s)) (set_is_empty a s)
  unfolding set_is_empty mean_node term maker_means positions set_v ruled lit_rule all
  is_empty_law =
      law_if (is_set a s) _ _
      (λ e. says w (is_nil (mem_at a s)) (λ I G. ap bool (listed_empty (meaning I a) (mem_at a s) ∙ ap empty_v (sym (members I e)))))
      (λ e. let l = empty_law (type_at a s) refl in
      onward l.ext
      (reads (eq_law l.wf s (put a (node 20 (type_at a s) 0 [])).at (typed_ext w l.ext m) l.typed) (λ z. (lit_old l.ext m z, l.lit tt))
      (λ I G. ap bool (ap₂ eq_v (mean_old l.ext m I ∙ sym (form I G)) (l.means I G) ∙ eq_empty (as_set (meaning I a s))))))

-- ---- two sets of one type

module _ {a : Nodes} (w : WF a) {y : Ty} (s t : ℕ) (m : Typed a (tset y) s) (n : Typed a (tset y) t) where
  -- two literals, and what holds of them
  record Both : Type 0 where
    set_s : is_set a s ≡ true
    set_t : is_set a t ≡ true
    lit_s : Lit a s
    lit_t : Lit a t

  both : both_sets a s t ≡ true → Both
  both e =
      let f = and_r (is_set a s) _ e in let g = and_r (is_set a t) _ f in
      record { set_s = and_l _ _ e; set_t = and_l _ _ f; lit_s = and_l _ _ g; lit_t = and_r (is_lit a s) _ g }

  not_both : both_sets a s t ≡ false → Lit a s × Lit a t → ⊥
  not_both e l = t≢f (sym (rw (lit_is_set w s m l.0, lit_is_set w t n l.1, l.0, l.1)) ∙ e)

  -- the second's members are of the first's element type
  literals_t : (I : Interp) → Both → Elems I w (elem_at a s) (mem_at a t)
  literals_t I b = subst (λ (z : ℕ). Elems I w (get_or (mem_at a z) 0 0) (mem_at a t)) (same_tm w m n).typed (literals w t n I b.set_t b.lit_t)

  sets : (I : Interp) → Both → {X : Type 0} (f : Values → Values → X) → f (as_set (meaning I a s)) (as_set (meaning I a t)) ≡ f (set_v (map (meaning I a) (mem_at a s))) (set_v (map (meaning I a) (mem_at a t)))
  sets I b f = ap₂ f (members w s m I b.set_s) (members w t n I b.set_t)

  -- ---- 51 subset

  pub subset_law : Law a (Lit a s × Lit a t) tbool (λ I. means51 (meaning I a s) (meaning I a t)) (set_subset a s t)
  unfolding set_subset subset_v mean_node term data_means positions
  subset_law =
      law_if (eqb s t) _ _
      (λ e. says w true (λ I G. ap bool (sym (ap (λ (z : ℕ). subset_v (as_set (meaning I a s)) (as_set (meaning I a z))) (sym (eqb-true s t e)) ∙ subset_self (as_set (meaning I a s))))))
      (λ e1. law_if (empty_at a s) _ _
      (λ e. says w true (λ I G. ap (λ (r : Values). bool (subset_v r (as_set (meaning I a t)))) (sym (empty w s m I e))))
      (λ e2. law_if (both_sets a s t) _ _
      (λ e. let b = both e in
      says w (all (λ x. mem? x (mem_at a t)) (mem_at a s)) (λ I G. ap bool (sym (sets I b subset_v
      ∙ subset_lit I w (elem_at a s) (mem_at a s) (mem_at a t) (literals w s m I b.set_s b.lit_s) (literals_t I b)))))
      (λ e3. applied (node 151 0 0 (s ∷ t ∷ [])) w (omega arith) (is_sub (type_at a s) s t (set_kind w m) (own w s m) (same_tm w m n)) (ty_bool w.base) (not_both e3))))

  -- ---- 52 inter

  pub inter_law : Law a (Lit a s × Lit a t) (tset y) (λ I. means52 (meaning I a s) (meaning I a t)) (set_inter a s t)
  unfolding set_inter inter_v mean_node term maker_means data_means positions ruled lit_rule
  inter_law =
      law_if (eqb s t) _ _
      (λ e. stay s w m (λ I G. sym (form w s m I G) ∙ ap vset (sym (inter_self (as_set (meaning I a s)) (set_at I G w (type_at a s) s (set_kind w m) (own w s m)).rise))
      ∙ ap (λ (z : ℕ). vset (inter_v (as_set (meaning I a s)) (as_set (meaning I a z)))) (eqb-true s t e)) (λ l. l.0))
      (λ e1. law_if (empty_at a s) _ _
      (λ e. stay s w m (λ I G. sym (form w s m I G) ∙ rw (empty w s m I e)) (λ l. l.0))
      (λ e2. law_if (empty_at a t) _ _
      (λ e. stay t w n (λ I G. sym (form w t n I G) ∙ rw (empty w t n I e) (ap vset (sym (inter_nil (as_set (meaning I a s)))))) (λ l. l.1))
      (λ e3. law_if (both_sets a s t) _ _
      (λ e. let b = both e in let x = set_node w s (eqb-true (kind_at a s) 20 b.set_s) in
      reads (added (node 20 (type_at a s) 0 (common (mem_at a s) (mem_at a t))) w (omega arith)
      (is_sett (type_at a s) (common (mem_at a s) (mem_at a t)) (set_kind w m) (let i = common-length (mem_at a s) (mem_at a t) in let j = x.few in omega arith)
      (common-rising (mem_at a s) (mem_at a t) x.rise) (common-all (is_term a) (mem_at a s) (mem_at a t) x.terms) (common-all (λ z. eqb (type_at a z) (elem_at a s)) (mem_at a s) (mem_at a t) x.types)) m.typed
      (λ l. common-all (is_lit a) (mem_at a s) (mem_at a t) (sym x.lits ∙ b.lit_s))) (λ l. l)
      (λ I G. ap vset (inter_lit I w (elem_at a s) (mem_at a s) (mem_at a t) (literals w s m I b.set_s b.lit_s) (literals_t I b) ∙ sym (sets I b inter_v))))
      (λ e4. applied (node 152 (type_at a s) 0 (s ∷ t ∷ [])) w (omega arith) (is_int (type_at a s) s t (set_kind w m) (own w s m) (same_tm w m n)) m.typed (not_both e4)))))

  -- ---- 54 intersects

  pub intersects_law : Law a (Lit a s × Lit a t) tbool (λ I. means54 (meaning I a s) (meaning I a t)) (set_intersects a s t)
  unfolding set_intersects not_empty as_bool as_set
  intersects_law =
      let l = inter_law in
      let o = set_inter a s t in
      let k = is_empty_law l.wf o.at l.typed in
      let p = set_is_empty o.arena o.at in
      onward l.ext (onward k.ext
      (reads (not_law k.wf p.at k.typed) (λ z. k.lit (l.lit z)) (λ I G. rw (k.means I G, l.means I G))))
