-- Types that are equal by structure are one position.
use mathlib.Core.Path.{◌≡◌, refl, sym, ap, ◌∙◌, subst}
use Prim.Native.Nat.{ℕ, zero, suc, ◌%◌, ◌≤◌, ◌<◌}
use native.Mathlib.Omega.{arith}
use mathlib.Core.Bool.{true}
use mathlib.Core.Logic.{◌⊎◌, inl, inr}
use mathlib.Core.List.{List, [], ◌∷◌, map}
use lib.ListN.{length}
use lib.Dec.{ltb}
use borrow.Author.Tests.{eqb-true, ltb-true}
use Rattle.arena.specs.Lists.{all, mem?, evens, odds}
use Rattle.arena.specs.Nodes.{Nodes, node_at, kind_at, type_at, par_at, mem_at, arg_at, args}
use Rattle.arena.specs.WellFormed.{field_run, is_type, type_test}
use Rattle.arena.specs.Values.{Ty, tbool, tbv, topt, tset, trec}
use Rattle.arena.specs.Meaning.{rec_ty, mk_ty, ty_node, ty_of}
use Rattle.arena.proofs.Bools.{every-all, branch, from}
use Rattle.arena.proofs.Runs.{mem0, all-at, mem-here, mem-there, all-mem}
use Rattle.arena.proofs.Ext.{node-kind}
use Rattle.arena.proofs.Chain.{WF, type-kind, kind-type, placed-type, args-below}
use Rattle.arena.proofs.View.{args-plain, args_fields}
use Rattle.arena.proofs.Put.{unique}
use Rattle.arena.proofs.Types.{ty_at, type-test, ty_bv, one-mem, ty_opt, ty_set, ty_rec}
use Rattle.arena.proofs.Whole.{elem_type, fields_type, good_at}

-- the kind of type node
unfoldable pub ty_kind : Ty → ℕ
ty_kind tbool = 1
ty_kind (tbv w) = 2
ty_kind (topt t) = 3
ty_kind (tset t) = 4
ty_kind (trec fs) = 5

five : {G : Type 0} (k : ℕ) → 1 ≤ k → k ≤ 5 → (k ≡ 1 → G) → (k ≡ 2 → G) → (k ≡ 3 → G) → (k ≡ 4 → G) → (k ≡ 5 → G) → G
five k h j a b c d e = from k 1 h a (λ h. from k 2 h b (λ h. from k 3 h c (λ h. from k 4 h d (λ h. e (omega arith)))))

module _ {a : Nodes} (w : WF a) where
  -- the kinds of types are 1 to 5
  type-five : (t : ℕ) → is_type a t ≡ true → (1 ≤ kind_at a t) × (kind_at a t ≤ 5)
  unfolding type_test
  type-five t h =
      let k = type-kind a t h in
      let x = (type-test w.chain t (kind_at a t) refl k.0 k.1).1 in (
        k.0,
        branch _ _ _ x (λ e g. let z = eqb-true (kind_at a t) 1 e in omega arith)
            (λ e1 x. branch _ _ _ x (λ e g. let z = eqb-true (kind_at a t) 2 e in omega arith)
            (λ e2 x. branch _ _ _ x (λ e g. let z = eqb-true (kind_at a t) 3 e in omega arith)
            (λ e3 x. branch _ _ _ x (λ e g. let z = eqb-true (kind_at a t) 4 e in omega arith)
            (λ e4 x. let z = eqb-true (kind_at a t) 5 (every-all _ x).0 in omega arith)))),
      )

  bool_ty : (t : ℕ) → kind_at a t ≡ 1 → ty_of a t ≡ tbool
  unfolding ty_node mk_ty
  bool_ty t e = ty_at w.chain t (kind-type a t 1 e (omega arith) (omega arith)) ∙ ap (ty_node a (ty_of a)) (node-kind a t 1 e)

  pub ty_kind_lem : (t : ℕ) → is_type a t ≡ true → ty_kind (ty_of a t) ≡ kind_at a t
  unfolding ty_kind
  ty_kind_lem t h =
      let k = type-five t h in
      five (kind_at a t) k.0 k.1
      (λ e. ap ty_kind (bool_ty t e) ∙ sym e)
      (λ e. ap ty_kind (ty_bv w.chain t e) ∙ sym e)
      (λ e. ap ty_kind (ty_opt w.chain t e) ∙ sym e)
      (λ e. ap ty_kind (ty_set w.chain t e) ∙ sym e)
      (λ e. ap ty_kind (ty_rec w.chain t e) ∙ sym e)

  -- a type's node: type cell 0, and parameter 0 but for Bitvec
  plain : (t : ℕ) → is_type a t ≡ true → type_at a t ≡ 0
  plain t h =
      let k = type-kind a t h in
      (placed-type a (node_at a t) k.1 (good_at w t k.0)).0

  module _ (b : ℕ) (ih : (s t : ℕ) → s < b → is_type a s ≡ true → is_type a t ≡ true → ty_of a s ≡ ty_of a t → s ≡ t)
      (s t : ℕ) (s≤b : s ≤ b) (hs : is_type a s ≡ true) (ht : is_type a t ≡ true) (e : ty_of a s ≡ ty_of a t) where
    kinds : kind_at a s ≡ kind_at a t
    kinds = sym (ty_kind_lem s hs) ∙ ap ty_kind e ∙ ty_kind_lem t ht

    one : par_at a s ≡ par_at a t → mem_at a s ≡ mem_at a t → s ≡ t
    one p m =
        unique w.chain s t (type-kind a s hs).0
        (λ j. record { kind = kinds j; type = (plain s hs ∙ sym (plain t ht)) j; par = p j; mem = m j })

    -- the test of a type's node
    test : (t k : ℕ) → kind_at a t ≡ k → 1 ≤ k → k ≤ 5 → (o : Nodes) × (type_test o k (par_at a t) (mem_at a t) (arg_at a t 0) ≡ true)
    test t k e h j = type-test w.chain t k e h (omega arith)

    case1 : kind_at a s ≡ 1 → s ≡ t
    unfolding type_test
    case1 h =
        let x = every-all _ (test s 1 h (omega arith) (omega arith)).1 in
        let y = every-all _ (test t 1 (sym kinds ∙ h) (omega arith) (omega arith)).1 in
        one (eqb-true _ _ x.1.0 ∙ sym (eqb-true _ _ y.1.0)) (mem0 _ (eqb-true _ _ x.0) ∙ sym (mem0 _ (eqb-true _ _ y.0)))

    case2 : kind_at a s ≡ 2 → s ≡ t
    unfolding type_test
    case2 h =
        let h' = sym kinds ∙ h in
        let x = every-all _ (test s 2 h (omega arith) (omega arith)).1 in
        let y = every-all _ (test t 2 h' (omega arith) (omega arith)).1 in
        let v : tbv (par_at a s) ≡ tbv (par_at a t) = sym (ty_bv w.chain s h) ∙ e ∙ ty_bv w.chain t h' in
        one (cc) (mem0 _ (eqb-true _ _ x.0) ∙ sym (mem0 _ (eqb-true _ _ y.0)))

    -- an element type is below
    elem_low : (kind_at a s ≡ 3) ⊎ (kind_at a s ≡ 4) → arg_at a s 0 < s
    elem_low h =
        let m = one-mem w.chain s h in
        let g : args (node_at a s) ≡ arg_at a s 0 ∷ [] = args-plain (node_at a s) (λ z. not5 h z) (λ z. not21 h z) ∙ m in
        ltb-true (arg_at a s 0) s (all-at (λ x. ltb x s) (arg_at a s 0) [] (subst (λ (r : List ℕ). all (λ x. ltb x s) r ≡ true) g (args-below w.chain s (type-kind a s hs).0))).0
      where
        not5 : (kind_at a s ≡ 3) ⊎ (kind_at a s ≡ 4) → kind_at a s ≡ 5 → ⊥
        not5 (inl h) z = omega arith
        not5 (inr h) z = omega arith

        not21 : (kind_at a s ≡ 3) ⊎ (kind_at a s ≡ 4) → kind_at a s ≡ 21 → ⊥
        not21 (inl h) z = omega arith
        not21 (inr h) z = omega arith

    -- two with one member each
    elem : (hs' : (kind_at a s ≡ 3) ⊎ (kind_at a s ≡ 4)) (ht' : (kind_at a t ≡ 3) ⊎ (kind_at a t ≡ 4)) → par_at a s ≡ par_at a t
        → ty_of a (arg_at a s 0) ≡ ty_of a (arg_at a t 0) → s ≡ t
    elem hs' ht' p v =
        let i = ih (arg_at a s 0) (arg_at a t 0) (let x = elem_low hs' in omega arith) (elem_type w s hs') (elem_type w t ht') v in
        one p (one-mem w.chain s hs' ∙ ap (λ (z : ℕ). z ∷ []) i ∙ sym (one-mem w.chain t ht'))

    case3 : kind_at a s ≡ 3 → s ≡ t
    unfolding type_test
    case3 h =
        let h' = sym kinds ∙ h in
        let x = every-all _ (test s 3 h (omega arith) (omega arith)).1 in
        let y = every-all _ (test t 3 h' (omega arith) (omega arith)).1 in
        let v : topt (ty_of a (arg_at a s 0)) ≡ topt (ty_of a (arg_at a t 0)) = sym (ty_opt w.chain s h) ∙ e ∙ ty_opt w.chain t h' in
        elem (inl h) (inl h') (eqb-true _ _ x.1.0 ∙ sym (eqb-true _ _ y.1.0)) (cc)

    case4 : kind_at a s ≡ 4 → s ≡ t
    unfolding type_test
    case4 h =
        let h' = sym kinds ∙ h in
        let x = every-all _ (test s 4 h (omega arith) (omega arith)).1 in
        let y = every-all _ (test t 4 h' (omega arith) (omega arith)).1 in
        let v : tset (ty_of a (arg_at a s 0)) ≡ tset (ty_of a (arg_at a t 0)) = sym (ty_set w.chain s h) ∙ e ∙ ty_set w.chain t h' in
        elem (inr h) (inr h') (eqb-true _ _ x.1.0 ∙ sym (eqb-true _ _ y.1.0)) (cc)

    -- the fields of one record type
    fields : (r q : List ℕ) → length r % 2 ≡ 0 → length q % 2 ≡ 0 → rec_ty (evens r) (map (ty_of a) (odds r)) ≡ rec_ty (evens q) (map (ty_of a) (odds q))
        → ((x y : ℕ) → mem? x (odds r) ≡ true → mem? y (odds q) ≡ true → ty_of a x ≡ ty_of a y → x ≡ y) → r ≡ q
    unfolding evens odds rec_ty
    fields [] [] m n v f = refl
    fields [] (y ∷ []) m n v f = absurd (omega arith)
    fields [] (y ∷ y' ∷ q) m n v f = let z : ◌≡◌ {A = ℕ} 0 1 = cc in absurd (omega arith)
    fields (x ∷ []) q m n v f = absurd (omega arith)
    fields (x ∷ x' ∷ r) [] m n v f = let z : ◌≡◌ {A = ℕ} 0 1 = cc in absurd (omega arith)
    fields (x ∷ x' ∷ r) (y ∷ []) m n v f = absurd (omega arith)
    fields (x ∷ x' ∷ r) (y ∷ y' ∷ q) m n v f =
        let k : x ≡ y = cc in
        let v' : ty_of a x' ≡ ty_of a y' = cc in
        let vv' : rec_ty (evens r) (map (ty_of a) (odds r)) ≡ rec_ty (evens q) (map (ty_of a) (odds q)) = cc in
        let i = f x' y' (mem-here x' (odds r)) (mem-here y' (odds q)) v' in
        let j = fields r q (omega arith) (omega arith) vv' (λ z z' p q'. f z z' (mem-there z x' (odds r) p) (mem-there z' y' (odds q) q')) in
        cc

    case5 : kind_at a s ≡ 5 → s ≡ t
    unfolding type_test field_run
    case5 h =
        let h' = sym kinds ∙ h in
        let x = every-all _ (test s 5 h (omega arith) (omega arith)).1 in
        let y = every-all _ (test t 5 h' (omega arith) (omega arith)).1 in
        let v : trec (rec_ty (evens (mem_at a s)) (map (ty_of a) (odds (mem_at a s)))) ≡ trec (rec_ty (evens (mem_at a t)) (map (ty_of a) (odds (mem_at a t)))) =
        sym (ty_rec w.chain s h) ∙ e ∙ ty_rec w.chain t h' in
        let lows : all (λ z. ltb z s) (odds (mem_at a s)) ≡ true =
        subst (λ (r : List ℕ). all (λ z. ltb z s) r ≡ true) (args_fields (node_at a s) (inl h)) (args-below w.chain s (type-kind a s hs).0) in
        one (eqb-true _ _ x.1.0 ∙ sym (eqb-true _ _ y.1.0))
        (fields (mem_at a s) (mem_at a t) (eqb-true (length (mem_at a s) % 2) 0 (every-all _ x.1.1.0).0) (eqb-true (length (mem_at a t) % 2) 0 (every-all _ y.1.1.0).0) (cc)
        (λ z z' i i' u.
        let l = ltb-true z s (all-mem (λ z. ltb z s) z (odds (mem_at a s)) lows i) in
        ih z z' (omega arith) (all-mem (is_type a) z (odds (mem_at a s)) (fields_type w s h) i) (all-mem (is_type a) z' (odds (mem_at a t)) (fields_type w t h') i') u))

    step : s ≡ t
    step = let k = type-five s hs in five (kind_at a s) k.0 k.1 case1 case2 case3 case4 case5

  canon_to : (b s t : ℕ) → s < b → is_type a s ≡ true → is_type a t ≡ true → ty_of a s ≡ ty_of a t → s ≡ t
  canon_to zero s t h hs ht e = absurd (omega arith)
  canon_to (suc b) s t h hs ht e = step b (λ s t h hs ht e. canon_to b s t h hs ht e) s t (omega arith) hs ht e

-- types of one structure are one position
pub ty_canon : {a : Nodes} → WF a → (s t : ℕ) → is_type a s ≡ true → is_type a t ≡ true → ty_of a s ≡ ty_of a t → s ≡ t
ty_canon w s t hs ht e = canon_to w (suc s) s t (omega arith) hs ht e
