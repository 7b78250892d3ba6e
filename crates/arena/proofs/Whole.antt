-- A node that is good over the nodes before it is good over the whole arena, and the cases and the test say the same.
use mathlib.Core.Path.{◌≡◌, refl, sym, ap, ap₂, ◌∙◌, subst}
use Prim.Native.Nat.{ℕ, ◌+◌, ◌^◌, ◌≤◌, ◌<◌}
use native.Mathlib.Omega.{arith}
use mathlib.Core.Bool.{true}
use mathlib.Core.Logic.{◌⊎◌, inl, inr}
use mathlib.Core.Option.{some}
use mathlib.Core.List.{List, [], ◌∷◌}
use lib.ListN.{length, get_or}
use lib.Dec.{eqb}
use borrow.Author.Tests.{eq-eqb, ne_eqb, eqb-true, le-leb, lt-leb, lt-ltb}
use Rattle.arena.specs.Lists.{every, all, same_list, odds, field}
use Rattle.arena.specs.Nodes.{Node, node, Nodes, node_at, kind_at, type_at, par_at, mem_at, arg_at, positions, args, field_types}
use Rattle.arena.specs.Walks.{free_rule}
use Rattle.arena.specs.WellFormed.{is_type, is_term, placed, type_test, maker_test, core_test, bv_test, data_test, kind_test, good_node}
use Rattle.arena.proofs.Bools.{all-every}
use Rattle.arena.proofs.Runs.{all-at, all0, all1, all2, all3, all_get, all_imp, all_imp2, field-holds, field-all}
use Rattle.arena.proofs.Ext.{Ext, ext_older, node_ext, kind-known, node-kind, walked_ext}
use Rattle.arena.proofs.Chain.{Chain, WF, place, kind-type, type-below, term-below, type_ext, term_ext, placed-term, type_arg}
use Rattle.arena.proofs.View.{Tm, Is, is_bool_lem, is_bv_lem, is_opt_lem, is_set, is_rec, is_blit, is_lit_lem, is_none, is_some, is_sett, is_recd, is_var, is_not, is_and, is_or, is_eq_lem, is_ite, is_uf, is_neg, is_bvn, is_nego, is_bvt, is_zext, is_mem, is_sub, is_int, is_get, is_fld, args-plain, view, tested}
use Rattle.arena.proofs.Base.{tm_ext, bool-type, tm_type}
use Rattle.arena.proofs.Types.{one-mem}

module _ {o a : Nodes} (e : Ext o a) where
  at_ext : (t k : ℕ) → kind_at o t ≡ k → 1 ≤ k → node_at a t ≡ node_at o t
  at_ext t k h l = node_ext e t (kind-known o t (omega arith))

  pub kind_ext : (t k : ℕ) → kind_at o t ≡ k → 1 ≤ k → kind_at a t ≡ k
  kind_ext t k h l = ap (λ (n : Node). n.kind) (at_ext t k h l) ∙ h

  arg_ext : (t k x : ℕ) → kind_at o t ≡ k → 1 ≤ k → Tm o (arg_at o t 0) x → Tm a (arg_at a t 0) x
  arg_ext t k x h l m = subst (λ (n : Node). Tm a (get_or n.mem 0 0) x) (sym (at_ext t k h l)) (tm_ext e m)

  pub field_types_ext : (r : List ℕ) → all (is_term o) (odds r) ≡ true → field_types a r ≡ field_types o r
  unfolding field_types odds
  field_types_ext [] h = refl
  field_types_ext (x ∷ []) h = refl
  field_types_ext (x ∷ y ∷ r) h =
      let p = all-at (is_term o) y (odds r) h in
      ap₂ (λ (t : ℕ) (q : List ℕ). x ∷ t ∷ q) (ap (λ (n : Node). n.type) (node_ext e y (term-below o y p.0))) (field_types_ext r p.1)

  pub is_ext : {n : Node} → Is o n → Is a n
  is_ext is_bool_lem = is_bool_lem
  is_ext (is_bv_lem w p q) = is_bv_lem w p q
  is_ext (is_opt_lem t p) = is_opt_lem t (type_ext e t p)
  is_ext (is_set t p q) = is_set t (type_ext e t p) (walked_ext free_rule e t (type-below o t p) ∙ q)
  is_ext (is_rec r p q) = is_rec r p (all_imp (is_type o) (is_type a) (λ x h. type_ext e x h) (odds r) q)
  is_ext (is_blit v p) = is_blit v p
  is_ext (is_lit_lem t v h p) = is_lit_lem t v (kind_ext t 2 h (omega arith)) (subst (λ (n : Node). v < 2 ^ n.par) (sym (at_ext t 2 h (omega arith))) p)
  is_ext (is_none t h) = is_none t (kind_ext t 3 h (omega arith))
  is_ext (is_some t x h m) = is_some t x (kind_ext t 3 h (omega arith)) (arg_ext t 3 x h (omega arith) m)
  is_ext (is_sett t xs h l r p q) =
      is_sett t xs (kind_ext t 4 h (omega arith)) l r (all_imp (is_term o) (is_term a) (λ x j. term_ext e x j) xs p)
      (all_imp2 (is_term o) (λ x. eqb (type_at o x) (arg_at o t 0)) (λ x. eqb (type_at a x) (arg_at a t 0))
      (λ x i j. eq-eqb (type_at a x) (arg_at a t 0) (arg_ext t 4 x h (omega arith) (record { isterm = i; typed = eqb-true (type_at o x) (arg_at o t 0) j })).typed) xs p q)
  is_ext (is_recd t r h p q s) =
      is_recd t r (kind_ext t 5 h (omega arith)) p (all_imp (is_term o) (is_term a) (λ x j. term_ext e x j) (odds r) q)
      (ap₂ same_list (ap (λ (n : Node). n.mem) (at_ext t 5 h (omega arith))) (field_types_ext r q) ∙ s)
  is_ext (is_var t id p q) = is_var t id (type_ext e t p) q
  is_ext (is_not x m) = is_not x (tm_ext e m)
  is_ext (is_and x y m n) = is_and x y (tm_ext e m) (tm_ext e n)
  is_ext (is_or x y m n) = is_or x y (tm_ext e m) (tm_ext e n)
  is_ext (is_eq_lem x y t m n) = is_eq_lem x y t (tm_ext e m) (tm_ext e n)
  is_ext (is_ite t g x y l m n) = is_ite t g x y (tm_ext e l) (tm_ext e m) (tm_ext e n)
  is_ext (is_uf t id x p q r) = is_uf t id x (type_ext e t p) q (term_ext e x r)
  is_ext (is_neg t x h m) = is_neg t x (kind_ext t 2 h (omega arith)) (tm_ext e m)
  is_ext (is_bvn k t x y p q h m n) = is_bvn k t x y p q (kind_ext t 2 h (omega arith)) (tm_ext e m) (tm_ext e n)
  is_ext (is_nego t x h m) = is_nego t x (kind_ext t 2 h (omega arith)) (tm_ext e m)
  is_ext (is_bvt k t x y p q r h m n) = is_bvt k t x y p q r (kind_ext t 2 h (omega arith)) (tm_ext e m) (tm_ext e n)
  is_ext (is_zext t u n x h j m p) =
      is_zext t u n x (kind_ext t 2 h (omega arith)) (kind_ext u 2 j (omega arith)) (tm_ext e m) (ap (λ (z : Node). z.par) (at_ext t 2 h (omega arith)) ∙ p ∙ ap (λ (z : Node). z.par + n) (sym (at_ext u 2 j (omega arith))))
  is_ext (is_mem t x s h m n) = is_mem t x s (kind_ext t 4 h (omega arith)) (arg_ext t 4 x h (omega arith) m) (tm_ext e n)
  is_ext (is_sub t x y h m n) = is_sub t x y (kind_ext t 4 h (omega arith)) (tm_ext e m) (tm_ext e n)
  is_ext (is_int t x y h m n) = is_int t x y (kind_ext t 4 h (omega arith)) (tm_ext e m) (tm_ext e n)
  is_ext (is_get t x h m) =
      subst (λ (n : Node). Is a (node 155 (get_or n.mem 0 0) 0 (x ∷ []))) (at_ext t 3 h (omega arith)) (is_get t x (kind_ext t 3 h (omega arith)) (tm_ext e m))
  is_ext (is_fld t u k x h m p q) =
      is_fld t u k x (kind_ext t 5 h (omega arith)) (tm_ext e m) p (ap (λ (n : Node). field n.mem k) (at_ext t 5 h (omega arith)) ∙ q)

-- what stands at p, as a case, in the whole arena
pub is_at : {a : Nodes} → Chain a → (p : ℕ) → 1 ≤ kind_at a p → Is a (node_at a p)
is_at {a} c p h =
    let pl = place c p h in
    is_ext (ext_older pl.ext) (view pl.older (node_at a p) pl.good)

pub is_kind : {a : Nodes} → Chain a → (p k : ℕ) → kind_at a p ≡ k → 1 ≤ k → Is a (node k (type_at a p) (par_at a p) (mem_at a p))
is_kind {a} c p k e h = subst (Is a) (node-kind a p k e) (is_at c p (omega arith))

-- ---- and back to the test

module _ {a : Nodes} (w : WF a) where
  p0 : (t : ℕ) → is_type a t ≡ true → every (is_type a t ∷ all (is_term a) [] ∷ []) ≡ true
  p0 t h = all-every _ (h, (all0 (is_term a), tt))

  p1 : (t x : ℕ) → is_type a t ≡ true → is_term a x ≡ true → every (is_type a t ∷ all (is_term a) (x ∷ []) ∷ []) ≡ true
  p1 t x h m = all-every _ (h, (all1 (is_term a) x m, tt))

  p2 : (t x y : ℕ) → is_type a t ≡ true → is_term a x ≡ true → is_term a y ≡ true → every (is_type a t ∷ all (is_term a) (x ∷ y ∷ []) ∷ []) ≡ true
  p2 t x y h m n = all-every _ (h, (all2 (is_term a) x y m n, tt))

  kt : (t k : ℕ) → kind_at a t ≡ k → 1 ≤ k → k ≤ 15 → is_type a t ≡ true
  kt t k h l m = kind-type a t k h l m

  same_ty : {t x : ℕ} → Tm a t x → eqb (type_at a x) t ≡ true
  same_ty {t} {x} m = eq-eqb (type_at a x) t m.typed

  sort_ty : {t x : ℕ} (k : ℕ) → Tm a t x → kind_at a t ≡ k → eqb (kind_at a (type_at a x)) k ≡ true
  sort_ty {t} {x} k m h = eq-eqb (kind_at a (type_at a x)) k (ap (kind_at a) m.typed ∙ h)

  two-same : {t x y : ℕ} → Tm a t x → Tm a t y → eqb (type_at a y) (type_at a x) ≡ true
  two-same {t} {x} {y} m n = eq-eqb (type_at a y) (type_at a x) (n.typed ∙ sym m.typed)

  -- the members of a type are types
  type-args : (t k : ℕ) → kind_at a t ≡ k → 1 ≤ k → k ≤ 15 → all (is_type a) (args (node k (type_at a t) (par_at a t) (mem_at a t))) ≡ true
  type-args t k h l m = subst (λ (n : Node). all (is_type a) (args n) ≡ true) (node-kind a t k h) (type_arg w.chain t (kind-type a t k h l m))

  -- the element of an Option or a Set
  pub elem_type : (t : ℕ) → (kind_at a t ≡ 3) ⊎ (kind_at a t ≡ 4) → is_type a (arg_at a t 0) ≡ true
  unfolding positions
  elem_type t (inl h) = (all-at (is_type a) (arg_at a t 0) [] (subst (λ (r : List ℕ). all (is_type a) r ≡ true) (one-mem w.chain t (inl h)) (type-args t 3 h (omega arith) (omega arith)))).0
  elem_type t (inr h) = (all-at (is_type a) (arg_at a t 0) [] (subst (λ (r : List ℕ). all (is_type a) r ≡ true) (one-mem w.chain t (inr h)) (type-args t 4 h (omega arith) (omega arith)))).0

  -- the fields of a Record
  pub fields_type : (t : ℕ) → kind_at a t ≡ 5 → all (is_type a) (odds (mem_at a t)) ≡ true
  unfolding positions
  fields_type t h = type-args t 5 h (omega arith) (omega arith)

  pub field-type : (t k u : ℕ) → kind_at a t ≡ 5 → field (mem_at a t) k ≡ some u → is_type a u ≡ true
  field-type t k u h q = field-all (is_type a) (mem_at a t) k u (fields_type t h) q

  -- an application of a bitvector operation with two operands, from what its operands are
  bv_good : (n : Node) (x y : ℕ) → n.mem ≡ x ∷ y ∷ [] → 130 ≤ n.kind → n.kind ≤ 149 → is_type a n.type ≡ true → is_term a x ≡ true → is_term a y ≡ true
      → bv_test a n.kind n.type n.par 2 x y ≡ true → good_node a n ≡ true
  unfolding good_node kind_test
  bv_good n x y e lo hi t mx my g =
      all-every _ (pl, (rw (lt-leb n.kind 15 (omega arith), lt-leb n.kind 99 (omega arith), lt-leb n.kind 129 (omega arith), le-leb n.kind 149 hi, kind_test, e) g, tt))
    where
      pl : placed a n.kind n.type n.mem ≡ true
      pl = unfold placed in rw (lt-leb n.kind 15 (omega arith), args-plain n (λ z. omega arith) (λ z. omega arith), placed, e) (p2 n.type x y t mx my)

  pub good_is : {n : Node} → Is a n → good_node a n ≡ true
  unfolding good_node placed kind_test type_test maker_test core_test bv_test data_test positions
  good_is is_bool_lem = all-every _ (all-every _ (refl, (all0 (is_type a), tt)), (all-every _ (refl, (refl, tt)), tt))
  good_is (is_bv_lem k p q) = all-every _ (all-every _ (refl, (all0 (is_type a), tt)), (all-every _ (refl, (le-leb 1 k p, (le-leb k 64 q, tt))), tt))
  good_is (is_opt_lem t p) = all-every _ (all-every _ (refl, (all1 (is_type a) t p, tt)), (all-every _ (refl, (refl, tt)), tt))
  good_is (is_set t p q) = all-every _ (all-every _ (refl, (all1 (is_type a) t p, tt)), (all-every _ (refl, (refl, (q, tt))), tt))
  good_is (is_rec r p q) = all-every _ (all-every _ (refl, (q, tt)), (all-every _ (refl, (refl, (p, tt))), tt))
  good_is (is_blit v p) = all-every _ (p0 0 (bool-type w), (all-every _ (refl, (le-leb v 1 p, (refl, tt))), tt))
  good_is (is_lit_lem t v h p) = all-every _ (p0 t (kt t 2 h (omega arith) (omega arith)), (all-every _ (refl, (eq-eqb (kind_at a t) 2 h, (lt-ltb v (2 ^ par_at a t) p, tt))), tt))
  good_is (is_none t h) = all-every _ (p0 t (kt t 3 h (omega arith) (omega arith)), (all-every _ (refl, (refl, (eq-eqb (kind_at a t) 3 h, tt))), tt))
  good_is (is_some t x h m) =
      all-every _ (p1 t x (kt t 3 h (omega arith) (omega arith)) m.isterm, (all-every _ (refl, (refl, (eq-eqb (kind_at a t) 3 h, (same_ty m, tt)))), tt))
  good_is (is_sett t xs h l r p q) =
      all-every _ (all-every _ (kt t 4 h (omega arith) (omega arith), (p, tt)), (all-every _ (le-leb (length xs) 256 l, (refl, (eq-eqb (kind_at a t) 4 h, (r, (q, tt))))), tt))
  good_is (is_recd t r h p q s) =
      all-every _ (all-every _ (kt t 5 h (omega arith) (omega arith), (q, tt)), (all-every _ (p, (refl, (eq-eqb (kind_at a t) 5 h, (s, tt)))), tt))
  good_is (is_var t id p q) = all-every _ (p0 t p, (all-every _ (refl, (refl, (q, tt))), tt))
  good_is (is_not x m) = all-every _ (p1 0 x (bool-type w) m.isterm, (all-every _ (refl, (refl, (refl, (same_ty m, tt)))), tt))
  good_is (is_and x y m n) = all-every _ (p2 0 x y (bool-type w) m.isterm n.isterm, (all-every _ (refl, (refl, (refl, (same_ty m, (same_ty n, tt))))), tt))
  good_is (is_or x y m n) = all-every _ (p2 0 x y (bool-type w) m.isterm n.isterm, (all-every _ (refl, (refl, (refl, (same_ty m, (same_ty n, tt))))), tt))
  good_is (is_eq_lem x y t m n) = all-every _ (p2 0 x y (bool-type w) m.isterm n.isterm, (all-every _ (refl, (refl, (refl, (two-same m n, tt)))), tt))
  good_is (is_ite t g x y l m n) =
      all-every _ (all-every _ (tm_type w m, (all3 (is_term a) g x y l.isterm m.isterm n.isterm, tt)), (all-every _ (refl, (refl, (same_ty l, (same_ty m, (same_ty n, tt))))), tt))
  good_is (is_uf t id x p q r) = all-every _ (p1 t x p r, (all-every _ (refl, (refl, (q, tt))), tt))
  good_is (is_neg t x h m) = all-every _ (p1 t x (tm_type w m) m.isterm, (all-every _ (refl, (refl, (eq-eqb (kind_at a t) 2 h, (same_ty m, tt)))), tt))
  good_is (is_bvn k t x y p q h m n) =
      bv_good (node k t 0 (x ∷ y ∷ [])) x y refl (omega arith) (omega arith) (tm_type w m) m.isterm n.isterm
      (unfold bv_test in rw (ne_eqb k 130 (λ z. omega arith), le-leb k 140 q)
      (all-every _ (refl, (refl, (eq-eqb (kind_at a t) 2 h, (same_ty m, (same_ty n, tt)))))))
  good_is (is_nego t x h m) = all-every _ (p1 0 x (bool-type w) m.isterm, (all-every _ (refl, (refl, (refl, (sort_ty 2 m h, tt)))), tt))
  good_is (is_bvt k t x y p q r h m n) =
      bv_good (node k 0 0 (x ∷ y ∷ [])) x y refl (omega arith) (omega arith) (bool-type w) m.isterm n.isterm
      (unfold bv_test in rw (ne_eqb k 130 (λ z. omega arith), lt-leb k 140 p, ne_eqb k 145 r, ne_eqb k 149 (λ z. omega arith))
      (all-every _ (refl, (refl, (refl, (sort_ty 2 m h, (two-same m n, tt)))))))
  good_is (is_zext t u n x h j m p) =
      all-every _ (p1 t x (kt t 2 h (omega arith) (omega arith)) m.isterm, (all-every _ (refl, (eq-eqb (kind_at a t) 2 h, (sort_ty 2 m j, (eq-eqb (par_at a t) (par_at a (type_at a x) + n) (p ∙ ap (λ (z : ℕ). par_at a z + n) (sym m.typed)), tt)))), tt))
  good_is (is_mem t x s h m n) =
      all-every _ (p2 0 x s (bool-type w) m.isterm n.isterm, (all-every _ (refl, (refl, (refl, (sort_ty 4 n h, (eq-eqb (type_at a x) (arg_at a (type_at a s) 0) (m.typed ∙ ap (λ (z : ℕ). arg_at a z 0) (sym n.typed)), tt))))), tt))
  good_is (is_sub t x y h m n) = all-every _ (p2 0 x y (bool-type w) m.isterm n.isterm, (all-every _ (refl, (refl, (refl, (sort_ty 4 m h, (two-same m n, tt))))), tt))
  good_is (is_int t x y h m n) = all-every _ (p2 t x y (tm_type w m) m.isterm n.isterm, (all-every _ (refl, (refl, (eq-eqb (kind_at a t) 4 h, (same_ty m, (same_ty n, tt))))), tt))
  good_is (is_get t x h m) =
      all-every _ (p1 (arg_at a t 0) x (elem_type t (inl h)) m.isterm, (all-every _ (refl, (refl, (sort_ty 3 m h, (eq-eqb (arg_at a (type_at a x) 0) (arg_at a t 0) (ap (λ (z : ℕ). arg_at a z 0) m.typed), tt)))), tt))
  good_is (is_fld t u k x h m p q) =
      all-every _ (p1 u x (field-type t k u h q) m.isterm, (all-every _ (refl, (refl, (p, (sort_ty 5 m h, (field-holds (mem_at a (type_at a x)) k u (ap (λ (z : ℕ). field (mem_at a z) k) m.typed ∙ q), tt))))), tt))

-- every node is good in its own arena
pub good_at : {a : Nodes} → WF a → (p : ℕ) → 1 ≤ kind_at a p → good_node a (node_at a p) ≡ true
good_at w p h = good_is w (is_at w.chain p h)

pub good_kind : {a : Nodes} → WF a → (p k : ℕ) → kind_at a p ≡ k → 1 ≤ k → good_node a (node k (type_at a p) (par_at a p) (mem_at a p)) ≡ true
good_kind w p k e h = good_is w (is_kind w.chain p k e h)

-- the test of a maker's node
pub maker_test_lem : {a : Nodes} → WF a → (p k : ℕ) → kind_at a p ≡ k → 16 ≤ k → k ≤ 99 → maker_test a k (type_at a p) (par_at a p) (mem_at a p) (arg_at a p 0) ≡ true
unfolding kind_test
maker_test_lem {a} w p k e h j =
    let g = tested a (node k (type_at a p) (par_at a p) (mem_at a p)) (good_kind w p k e (omega arith)) in
    rw (lt-leb k 15 h, le-leb k 99 j, kind_test) at g

-- the test of an application's node
module _ {a : Nodes} (w : WF a) (p k : ℕ) (e : kind_at a p ≡ k) where
  node-test : 1 ≤ k → kind_test a k (type_at a p) (par_at a p) (mem_at a p) (arg_at a p 0) (arg_at a p 1) (arg_at a p 2) ≡ true
  node-test h = tested a (node k (type_at a p) (par_at a p) (mem_at a p)) (good_kind w p k e h)

  pub core_test_lem : 100 ≤ k → k ≤ 129 → core_test a k (type_at a p) (par_at a p) (length (mem_at a p)) (arg_at a p 0) (arg_at a p 1) (arg_at a p 2) ≡ true
  unfolding kind_test
  core_test_lem h j = rw (lt-leb k 15 (omega arith), lt-leb k 99 h, le-leb k 129 j, kind_test) at (node-test (omega arith))

  pub bv_test_lem : 130 ≤ k → k ≤ 149 → bv_test a k (type_at a p) (par_at a p) (length (mem_at a p)) (arg_at a p 0) (arg_at a p 1) ≡ true
  unfolding kind_test
  bv_test_lem h j = rw (lt-leb k 15 (omega arith), lt-leb k 99 (omega arith), lt-leb k 129 h, le-leb k 149 j, kind_test) at (node-test (omega arith))

  -- member i of an application is a term
  pub operand : 22 ≤ k → (i : ℕ) → i < length (mem_at a p) → is_term a (arg_at a p i) ≡ true
  operand h i l =
      let n = node k (type_at a p) (par_at a p) (mem_at a p) in
      let ts = (placed-term a n (omega arith) (good_kind w p k e (omega arith))).1 in
      all_get (is_term a) (mem_at a p) (subst (λ (r : List ℕ). all (is_term a) r ≡ true) (args-plain n (λ z. omega arith) (λ z. omega arith)) ts) i l
