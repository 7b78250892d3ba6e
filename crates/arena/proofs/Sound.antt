-- Every term's meaning is a value of its type, under every interpretation that gives values of its types.
use mathlib.Core.Path.{◌≡◌, refl, sym, ap, ◌∙◌, subst}
use Prim.Native.Nat.{ℕ, ◌-◌, ◌^◌, ◌≤◌, ◌<◌}
use native.Mathlib.Omega.{arith}
use mathlib.Core.Bool.{Bool, true, false, cond}
use mathlib.Core.List.{[], ◌∷◌, map}
use lib.Dec.{eqb, leb}
use borrow.Author.Tests.{ne_eqb, eqb-true, eqb-false, leb-true, leb-false, le-leb, lt-leb, lt-ltb}
use Rattle.smtlib.specs.Numbered.{bvapp_of, bvcmp_of, bvso_of}
use Rattle.smtlib.proofs.Below.{bvneg-lt, bvapp_lt}
use Rattle.arena.specs.Lists.{evens, odds}
use Rattle.arena.specs.Nodes.{Node, node, Nodes, mark, kind_at, type_at, par_at, mem_at, arg_at, positions, args, keys, field_types, fresh}
use Rattle.arena.specs.WellFormed.{is_type, is_term}
use Rattle.arena.specs.Values.{Ty, tbool, Value, bool, bits, vnone, set_v, inter_v, as_bool, as_bits, as_set, as_rec, fits}
use Rattle.arena.specs.Meaning.{rec_ty, ty_of, ty_at, width, Interp, Good, none_get, maker_means, core_means, bv_means, data_means, term, mean_node, meaning}
use Rattle.arena.proofs.Runs.{same_list_lem}
use Rattle.arena.proofs.Ext.{Ext, ext_same, ext_trans, ext_one, over_new, node_new, node_old, ty_ext, meaning_ext}
use Rattle.arena.proofs.Chain.{Chain, nil, link, WF, no_node, type-below, term-kind, term_pos, term-below, placed-term, ty_at_ext}
use Rattle.arena.proofs.View.{Tm, Is, is_bool_lem, is_bv_lem, is_opt_lem, is_set, is_rec, is_blit, is_lit_lem, is_none, is_some, is_sett, is_recd, is_var, is_not, is_and, is_or, is_eq_lem, is_ite, is_uf, is_neg, is_bvn, is_nego, is_bvt, is_zext, is_mem, is_sub, is_int, is_get, is_fld, args-plain, view}
use Rattle.arena.proofs.Types.{ty_bv, ty_opt, ty_set, ty_rec, ty_bool}
use Rattle.arena.proofs.SetOps.{inter_all, inter_rising, set_rising, set_all}
use Rattle.arena.proofs.Fits.{none_get-fits, bool-fits, bits-fits, FitSet, set_fits, fits_set, rec-fits, bits_wider, get_fits, pick_fits, fields_fit, field_fits, zero_extend_is}

-- ---- bitvector applications, whose kind is a variable

module _ (I : Interp) (a : Nodes) (f : ℕ → Value) (k t x y : ℕ) where
  args-two : 22 ≤ k → args (node k t 0 (x ∷ y ∷ [])) ≡ x ∷ y ∷ []
  args-two h = args-plain (node k t 0 (x ∷ y ∷ [])) (λ z. omega arith) (λ z. omega arith)

  pub mean_bv : 130 ≤ k → k ≤ 149 → mean_node I a f (node k t 0 (x ∷ y ∷ [])) ≡ bv_means k 0 (width (ty_at a x)) (as_bits (f x)) (as_bits (f y))
  unfolding mean_node term
  mean_bv h j = rw (args-two (omega arith), lt-leb k 99 (omega arith), lt-leb k 129 h, le-leb k 149 j)

  pub mean_bvn : 131 ≤ k → k ≤ 140 → mean_node I a f (node k t 0 (x ∷ y ∷ [])) ≡ bits (bvapp_of (k - 100) (width (ty_at a x)) (as_bits (f x)) (as_bits (f y)))
  unfolding bv_means
  mean_bvn h j = mean_bv (omega arith) (omega arith) ∙ rw (ne_eqb k 130 (λ z. omega arith), le-leb k 140 j)

  pub mean_cmp : 141 ≤ k → k ≤ 144 → mean_node I a f (node k t 0 (x ∷ y ∷ [])) ≡ bool (bvcmp_of (k - 100) (width (ty_at a x)) (as_bits (f x)) (as_bits (f y)))
  unfolding bv_means
  mean_cmp h j = mean_bv (omega arith) (omega arith) ∙ rw (ne_eqb k 130 (λ z. omega arith), lt-leb k 140 h, le-leb k 144 j)

  pub mean_so : 146 ≤ k → k ≤ 148 → mean_node I a f (node k t 0 (x ∷ y ∷ [])) ≡ bool (bvso_of (k - 100) (width (ty_at a x)) (as_bits (f x)) (as_bits (f y)))
  unfolding bv_means
  mean_so h j = mean_bv (omega arith) (omega arith) ∙ rw (ne_eqb k 130 (λ z. omega arith), lt-leb k 140 (omega arith), lt-leb k 144 (omega arith), ne_eqb k 145 (λ z. omega arith), le-leb k 148 j)

  -- a comparison or an overflow test
  pub bv_test_of : Bool
  bv_test_of = cond (leb k 144) (bvcmp_of (k - 100) (width (ty_at a x)) (as_bits (f x)) (as_bits (f y))) (bvso_of (k - 100) (width (ty_at a x)) (as_bits (f x)) (as_bits (f y)))

  pub mean_bvt : 141 ≤ k → k ≤ 148 → (k ≡ 145 → ⊥) → mean_node I a f (node k t 0 (x ∷ y ∷ [])) ≡ bool bv_test_of
  unfolding bv_test_of
  mean_bvt h j n = go (leb k 144) refl
    where
      go : (b : Bool) → leb k 144 ≡ b → mean_node I a f (node k t 0 (x ∷ y ∷ [])) ≡ bool bv_test_of
      go true e = rw (e, bv_test_of) (mean_cmp h (leb-true k 144 e))
      go false e = let l = leb-false k 144 e in rw (e, bv_test_of) (mean_so (omega arith) j)

-- ---- a node over an arena whose terms fit

module _ (I : Interp) (G : Good I) (o : Nodes) (c : Chain o) (b : is_type o 0 ≡ true → ty_of o 0 ≡ tbool)
    (ih : (x : ℕ) → is_term o x ≡ true → fits (ty_at o x) (meaning I o x) ≡ true) where
  at-type : {t x : ℕ} → Tm o t x → fits (ty_of o t) (meaning I o x) ≡ true
  at-type {t} {x} m = subst (λ (z : ℕ). fits (ty_of o z) (meaning I o x) ≡ true) m.typed (ih x m.isterm)

  -- by the structure of the type
  at_ty : {t x : ℕ} {y : Ty} → ty_of o t ≡ y → Tm o t x → fits y (meaning I o x) ≡ true
  at_ty {t} {x} e m = subst (λ (z : Ty). fits z (meaning I o x) ≡ true) e (at-type m)

  truth : (v : Bool) → is_type o 0 ≡ true → fits (ty_of o 0) (bool v) ≡ true
  unfolding fits
  truth v h = rw (b h)

  below : {t x : ℕ} → kind_at o t ≡ 2 → Tm o t x → as_bits (meaning I o x) < 2 ^ par_at o t
  below {t} {x} e m = (bits-fits (par_at o t) (meaning I o x) (at_ty (ty_bv c t e) m)).1

  width-at : {t x : ℕ} → kind_at o t ≡ 2 → Tm o t x → width (ty_at o x) ≡ par_at o t
  unfolding width
  width-at {t} {x} e m = ap width (ap (ty_of o) m.typed ∙ ty_bv c t e)

  number : (t : ℕ) (v : ℕ) → kind_at o t ≡ 2 → v < 2 ^ par_at o t → fits (ty_of o t) (bits v) ≡ true
  unfolding fits
  number t v e h = rw (ty_bv c t e) (lt-ltb v (2 ^ par_at o t) h)

  fit_is : (n : Node) → 16 ≤ n.kind → is_type o n.type ≡ true → Is o n → fits (ty_of o n.type) (mean_node I o (meaning I o) n) ≡ true
  unfolding mean_node term maker_means core_means bv_means data_means positions keys
  fit_is n h t is_bool_lem = absurd (omega arith)
  fit_is n h t (is_bv_lem w p q) = absurd (omega arith)
  fit_is n h t (is_opt_lem x p) = absurd (omega arith)
  fit_is n h t (is_set x p q) = absurd (omega arith)
  fit_is n h t (is_rec r p q) = absurd (omega arith)
  fit_is n h t (is_blit v p) = truth (eqb v 1) t
  fit_is n h t (is_lit_lem y v e p) = number y v e p
  fit_is n h t (is_none y e) = unfold fits in rw (ty_opt c y e)
  fit_is n h t (is_some y x e m) = unfold fits in rw (ty_opt c y e) (at-type m)
  fit_is n h t (is_sett y xs e l r p q) =
      rw (ty_set c y e) (fits_set (ty_of o (arg_at o y 0)) (set_v (map (meaning I o) xs))
      (set_all (λ v. fits (ty_of o (arg_at o y 0)) v) (meaning I o) (is_term o) (λ x. eqb (type_at o x) (arg_at o y 0))
      (λ x i j. at-type (record { isterm = i; typed = eqb-true (type_at o x) (arg_at o y 0) j })) xs p q)
      (set_rising (map (meaning I o) xs)))
  fit_is n h t (is_recd y r e p q s) =
      unfold fits in rw (ty_rec c y e, same_list_lem (mem_at o y) (field_types o r) s) (fields_fit (ty_of o) (meaning I o) o ih r q)
  fit_is n h t (is_var y id p q) = G.var-fits id (ty_of o y)
  fit_is n h t (is_not x m) = truth _ t
  fit_is n h t (is_and x y m k) = truth _ t
  fit_is n h t (is_or x y m k) = truth _ t
  fit_is n h t (is_eq_lem x y z m k) = truth _ t
  fit_is n h t (is_ite y g x z m k l) = pick_fits (ty_of o y) (as_bool (meaning I o g)) (meaning I o x) (meaning I o z) (at-type k) (at-type l)
  fit_is n h t (is_uf y id x p q r) = G.fun-fits id (ty_at o x) (ty_of o y) (meaning I o x) (ih x r)
  fit_is n h t (is_neg y x e m) = rw (width-at e m) (number y _ e (bvneg-lt (par_at o y) _))
  fit_is n h t (is_bvn k y x z p q e m l) =
      rw (mean_bvn I o (meaning I o) k y x z p q, width-at e m) (number y _ e (bvapp_lt (k - 100) (par_at o y) _ _ (below e m)))
  fit_is n h t (is_nego y x e m) = truth _ t
  fit_is n h t (is_bvt k y x z p q r e m l) = rw (mean_bvt I o (meaning I o) k 0 x z p q r) (truth _ t)
  fit_is n h t (is_zext y u k x e f m p) =
      rw (width-at f m, zero_extend_is (par_at o u) k (as_bits (meaning I o x)))
      (number y (as_bits (meaning I o x)) e (rw p (bits_wider (par_at o u) k (as_bits (meaning I o x)) (below f m))))
  fit_is n h t (is_mem y x s e m k) = truth _ t
  fit_is n h t (is_sub y x z e m k) = truth _ t
  fit_is n h t (is_int y x z e m k) =
      let s = set_fits (ty_of o (arg_at o y 0)) (meaning I o x) (at_ty (ty_set c y e) m) in
      rw (ty_set c y e) (fits_set (ty_of o (arg_at o y 0)) (inter_v (as_set (meaning I o x)) (as_set (meaning I o z)))
      (inter_all (λ v. fits (ty_of o (arg_at o y 0)) v) (as_set (meaning I o x)) (as_set (meaning I o z)) s.fit)
      (inter_rising (as_set (meaning I o x)) (as_set (meaning I o z)) s.rise))
  fit_is n h t (is_get y x e m) =
      get_fits (ty_of o (arg_at o y 0)) (none_get I (ty_of o (arg_at o y 0))) (meaning I o x) (none_get-fits I G (ty_of o (arg_at o y 0))) (at_ty (ty_opt c y e) m)
  fit_is n h t (is_fld y u k x e m p q) =
      field_fits (ty_of o) k u (mem_at o y) (as_rec (meaning I o x)) q (rec-fits (rec_ty (evens (mem_at o y)) (map (ty_of o) (odds (mem_at o y)))) (meaning I o x) (at_ty (ty_rec c y e) m)).1

module _ (I : Interp) (G : Good I) {a : Nodes} (base : Ext fresh a) where
  ty_zero : {o : Nodes} → Ext o a → is_type o 0 ≡ true → ty_of o 0 ≡ tbool
  ty_zero {o} e h = sym (ty_ext e 0 (type-below o 0 h)) ∙ ty_bool base

  fit_in : {o : Nodes} → Chain o → Ext o a → (p : ℕ) → is_term o p ≡ true → fits (ty_at o p) (meaning I o p) ≡ true
  fit_in nil e p k = no_node p (term_pos [] p k)
  fit_in (link {a = o} {n = n} c g f) e p k = go (λ q j. fit_in c (ext_trans ext_one e) q j) (eqb p (mark o)) refl
    where
      up : Ext o (n ∷ o)
      up = ext_one

      go : ((q : ℕ) → is_term o q ≡ true → fits (ty_at o q) (meaning I o q) ≡ true)
          → (b : Bool) → eqb p (mark o) ≡ b → fits (ty_at (n ∷ o) p) (meaning I (n ∷ o) p) ≡ true
      go ih true q =
          let at = eqb-true p (mark o) q in
          let here = node_new n o p at in
          let big : 16 ≤ n.kind = subst (λ (m : Node). 16 ≤ m.kind) here (term-kind (n ∷ o) p k) in
          let pt = placed-term o n big g in
          let t : ty_at (n ∷ o) p ≡ ty_of o n.type = ap (λ (m : Node). ty_of (n ∷ o) m.type) here ∙ ty_ext up n.type (type-below o n.type pt.0) in
          let v : meaning I (n ∷ o) p ≡ mean_node I o (meaning I o) n = unfold meaning in over_new vnone (mean_node I) n o p at in
          rw (t, v) (fit_is I G o c (ty_zero (ext_trans up e)) ih n big pt.0 (view o n g))
      go ih false q =
          let old = eqb-false p (mark o) q in
          let k' : is_term o p ≡ true = subst (λ (m : Node). leb 16 m.kind ≡ true) (node_old n o p old) k in
          rw (ty_at_ext c up p k', meaning_ext I up p (term-below o p k')) (ih p k')

-- a term's meaning is a value of its type
pub fit_at : (I : Interp) → Good I → {a : Nodes} → WF a → (p : ℕ) → is_term a p ≡ true → fits (ty_at a p) (meaning I a p) ≡ true
fit_at I G w p k = fit_in I G w.base w.chain ext_same p k

-- by the structure of the type
pub fit_tm : (I : Interp) → Good I → {a : Nodes} → WF a → {t p : ℕ} {y : Ty} → Tm a t p → ty_of a t ≡ y → fits y (meaning I a p) ≡ true
fit_tm I G {a} w {p = p} m e = subst (λ (z : Ty). fits z (meaning I a p) ≡ true) (ap (ty_of a) m.typed ∙ e) (fit_at I G w p m.isterm)

-- a Bool term means a bool, a bitvector a number below 2 to its width, a set a rising run
pub bool_at_lem : (I : Interp) → Good I → {a : Nodes} → WF a → (p : ℕ) → Tm a 0 p → bool (as_bool (meaning I a p)) ≡ meaning I a p
bool_at_lem I G {a} w p m = bool-fits (meaning I a p) (fit_tm I G w m (ty_bool w.base))

pub bits_at : (I : Interp) → Good I → {a : Nodes} → WF a → (t p : ℕ) → kind_at a t ≡ 2 → Tm a t p
    → (bits (as_bits (meaning I a p)) ≡ meaning I a p) × (as_bits (meaning I a p) < 2 ^ par_at a t)
bits_at I G {a} w t p h m = bits-fits (par_at a t) (meaning I a p) (fit_tm I G w m (ty_bv w.chain t h))

pub set_at : (I : Interp) → Good I → {a : Nodes} → WF a → (t p : ℕ) → kind_at a t ≡ 4 → Tm a t p → FitSet (ty_of a (arg_at a t 0)) (meaning I a p)
set_at I G {a} w t p h m = set_fits (ty_of a (arg_at a t 0)) (meaning I a p) (fit_tm I G w m (ty_set w.chain t h))
