-- A type by structure, read off its node.
use mathlib.Core.Path.{◌≡◌, sym, ap, ◌∙◌, subst}
use Prim.Native.Nat.{ℕ, ◌≤◌}
use native.Mathlib.Omega.{arith}
use mathlib.Core.Bool.{true}
use mathlib.Core.Logic.{◌⊎◌, inl, inr}
use mathlib.Core.List.{List, [], ◌∷◌, map}
use lib.ListN.{get_or}
use borrow.Author.Tests.{eqb-true, leb-true, le-leb}
use Rattle.arena.specs.Lists.{all, evens, odds}
use Rattle.arena.specs.Nodes.{Node, node, Nodes, mark, over, node_at, kind_at, type_at, par_at, mem_at, arg_at, positions, args, keys, fresh}
use Rattle.arena.specs.WellFormed.{is_type, type_test, kind_test, good_node}
use Rattle.arena.specs.Values.{tbool, tbv, topt, tset, trec}
use Rattle.arena.specs.Meaning.{rec_ty, mk_ty, ty_node, ty_of}
use Rattle.arena.proofs.Bools.{every-all}
use Rattle.arena.proofs.Runs.{mem1, map_agree}
use Rattle.arena.proofs.Ext.{Ext, ext_older, over_new, node-kind, ty_ext}
use Rattle.arena.proofs.Chain.{Chain, place, place-below, type-kind, kind-type, type-below, placed-type, place-type}
use Rattle.arena.proofs.View.{tested}

ty_node_ext : {o a : Nodes} (n : Node) → Ext o a → all (is_type o) (args n) ≡ true → ty_node o (ty_of o) n ≡ ty_node a (ty_of a) n
unfolding ty_node
ty_node_ext {o} {a} n e p =
    ap (mk_ty n.kind n.par (keys n)) (map_agree (is_type o) (ty_of o) (ty_of a) (λ x k. sym (ty_ext e x (type-below o x k))) (args n) p)

pub ty_at : {a : Nodes} → Chain a → (t : ℕ) → is_type a t ≡ true → ty_of a t ≡ ty_node a (ty_of a) (node_at a t)
unfolding ty_of
ty_at {a} c t h =
    let pl = place-type c t h in
    ty_ext pl.ext t (place-below pl)
    ∙ over_new tbool ty_node (node_at a t) pl.older t (sym pl.here)
    ∙ ty_node_ext (node_at a t) (ext_older pl.ext) (placed-type pl.older (node_at a t) (type-kind a t h).1 pl.good).1

-- ---- with the kind known

module _ {a : Nodes} (c : Chain a) (t : ℕ) where
  -- the test that its node passed
  pub type-test : (k : ℕ) → kind_at a t ≡ k → 1 ≤ k → k ≤ 15 → (o : Nodes) × (type_test o k (par_at a t) (mem_at a t) (arg_at a t 0) ≡ true)
  unfolding kind_test
  type-test k e h j =
      let pl = place c t (omega arith) in
      let n = node k (type_at a t) (par_at a t) (mem_at a t) in
      let g = tested pl.older n (subst (λ (m : Node). good_node pl.older m ≡ true) (node-kind a t k e) pl.good) in
      (pl.older, rw (le-leb k 15 j, kind_test) at g)

  ty_kind_lem : (k : ℕ) → kind_at a t ≡ k → 1 ≤ k → k ≤ 15 → ty_of a t ≡ ty_node a (ty_of a) (node k (type_at a t) (par_at a t) (mem_at a t))
  ty_kind_lem k e h j = ty_at c t (kind-type a t k e h j) ∙ ap (ty_node a (ty_of a)) (node-kind a t k e)

  pub ty_bv : kind_at a t ≡ 2 → ty_of a t ≡ tbv (par_at a t)
  unfolding ty_node mk_ty
  ty_bv e = ty_kind_lem 2 e (omega arith) (omega arith)

  -- an Option or a Set has one member
  pub one-mem : (kind_at a t ≡ 3) ⊎ (kind_at a t ≡ 4) → mem_at a t ≡ arg_at a t 0 ∷ []
  unfolding type_test
  one-mem (inl e) = mem1 (mem_at a t) (eqb-true _ _ (every-all _ (type-test 3 e (omega arith) (omega arith)).1).0)
  one-mem (inr e) = mem1 (mem_at a t) (eqb-true _ _ (every-all _ (type-test 4 e (omega arith) (omega arith)).1).0)

  pub ty_opt : kind_at a t ≡ 3 → ty_of a t ≡ topt (ty_of a (arg_at a t 0))
  unfolding ty_node mk_ty positions
  ty_opt e =
      ty_kind_lem 3 e (omega arith) (omega arith)
      ∙ ap (λ (ms : List ℕ). topt (get_or (map (ty_of a) ms) 0 tbool)) (one-mem (inl e))

  pub ty_set : kind_at a t ≡ 4 → ty_of a t ≡ tset (ty_of a (arg_at a t 0))
  unfolding ty_node mk_ty positions
  ty_set e =
      ty_kind_lem 4 e (omega arith) (omega arith)
      ∙ ap (λ (ms : List ℕ). tset (get_or (map (ty_of a) ms) 0 tbool)) (one-mem (inr e))

  pub ty_rec : kind_at a t ≡ 5 → ty_of a t ≡ trec (rec_ty (evens (mem_at a t)) (map (ty_of a) (odds (mem_at a t))))
  unfolding ty_node mk_ty positions keys
  ty_rec e = ty_kind_lem 5 e (omega arith) (omega arith)

  -- a width is 1 to 64
  pub width_range : kind_at a t ≡ 2 → (1 ≤ par_at a t) × (par_at a t ≤ 64)
  unfolding type_test
  width_range e =
      let w = every-all _ (type-test 2 e (omega arith) (omega arith)).1 in
      (leb-true _ _ w.1.0, leb-true _ _ w.1.1.0)

pub ty_bool : {a : Nodes} → Ext fresh a → ty_of a 0 ≡ tbool
unfolding ty_of over ty_node mk_ty positions keys mark
ty_bool e = ty_ext e 0 (omega arith)
