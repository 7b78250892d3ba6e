-- Well-formedness of a node as a proposition with a case for each kind, and that the test finds the case.
use mathlib.Core.Path.{◌≡◌, refl, sym, ◌∙◌, subst}
use Prim.Native.Nat.{ℕ, zero, suc, ◌+◌, ◌^◌, ◌≤◌, ◌<◌}
use native.Mathlib.Omega.{arith}
use mathlib.Core.Bool.{true}
use mathlib.Core.Logic.{◌⊎◌, inl, inr}
use mathlib.Core.Option.{some}
use mathlib.Core.List.{List, [], ◌∷◌}
use lib.ListN.{length, get_or}
use lib.Dec.{eqb}
use borrow.Author.Tests.{ne_eqb, eqb-true, eqb-false, leb-true, leb-false, ltb-true}
use Rattle.arena.specs.Lists.{every, all, same_list, odds, field, rising}
use Rattle.arena.specs.Nodes.{Node, node, Nodes, kind_at, type_at, par_at, mem_at, arg_at, positions, args, field_types}
use Rattle.arena.specs.Walks.{set_free}
use Rattle.arena.specs.WellFormed.{small, field_run, is_type, is_term, type_test, maker_test, core_test, bv_test, data_test, kind_test, good_node}
use Rattle.arena.proofs.Bools.{t≢f, every-all, branch}
use Rattle.arena.proofs.Runs.{mem0, mem1, mem2, mem3, all_get, holds-field}
use Rattle.arena.proofs.Ext.{node_eq}
use Rattle.arena.proofs.Chain.{placed-term, placed-type}

-- the start of a term whose type is at t
pub record Tm (a : Nodes) (t x : ℕ) : Type 0 where
  pub isterm : is_term a x ≡ true
  pub typed : type_at a x ≡ t

pub data Is (a : Nodes) : Node → Type 0 where
  is_bool_lem : Is a (node 1 0 0 [])
  is_bv_lem : (w : ℕ) → 1 ≤ w → w ≤ 64 → Is a (node 2 0 w [])
  is_opt_lem : (t : ℕ) → is_type a t ≡ true → Is a (node 3 0 0 (t ∷ []))
  is_set : (t : ℕ) → is_type a t ≡ true → set_free a t ≡ true → Is a (node 4 0 0 (t ∷ []))
  is_rec : (r : List ℕ) → field_run r ≡ true → all (is_type a) (odds r) ≡ true → Is a (node 5 0 0 r)
  is_blit : (v : ℕ) → v ≤ 1 → Is a (node 16 0 v [])
  is_lit_lem : (t v : ℕ) → kind_at a t ≡ 2 → v < 2 ^ par_at a t → Is a (node 17 t v [])
  is_none : (t : ℕ) → kind_at a t ≡ 3 → Is a (node 18 t 0 [])
  is_some : (t x : ℕ) → kind_at a t ≡ 3 → Tm a (arg_at a t 0) x → Is a (node 19 t 0 (x ∷ []))
  is_sett : (t : ℕ) (xs : List ℕ) → kind_at a t ≡ 4 → length xs ≤ 256 → rising xs ≡ true → all (is_term a) xs ≡ true
      → all (λ x. eqb (type_at a x) (arg_at a t 0)) xs ≡ true → Is a (node 20 t 0 xs)
  is_recd : (t : ℕ) (r : List ℕ) → kind_at a t ≡ 5 → field_run r ≡ true → all (is_term a) (odds r) ≡ true
      → same_list (mem_at a t) (field_types a r) ≡ true → Is a (node 21 t 0 r)
  is_var : (t id : ℕ) → is_type a t ≡ true → small id ≡ true → Is a (node 22 t id [])
  is_not : (x : ℕ) → Tm a 0 x → Is a (node 120 0 0 (x ∷ []))
  is_and : (x y : ℕ) → Tm a 0 x → Tm a 0 y → Is a (node 121 0 0 (x ∷ y ∷ []))
  is_or : (x y : ℕ) → Tm a 0 x → Tm a 0 y → Is a (node 122 0 0 (x ∷ y ∷ []))
  is_eq_lem : (x y t : ℕ) → Tm a t x → Tm a t y → Is a (node 124 0 0 (x ∷ y ∷ []))
  is_ite : (t g x y : ℕ) → Tm a 0 g → Tm a t x → Tm a t y → Is a (node 125 t 0 (g ∷ x ∷ y ∷ []))
  is_uf : (t id x : ℕ) → is_type a t ≡ true → small id ≡ true → is_term a x ≡ true → Is a (node 126 t id (x ∷ []))
  is_neg : (t x : ℕ) → kind_at a t ≡ 2 → Tm a t x → Is a (node 130 t 0 (x ∷ []))
  is_bvn : (k t x y : ℕ) → 131 ≤ k → k ≤ 140 → kind_at a t ≡ 2 → Tm a t x → Tm a t y → Is a (node k t 0 (x ∷ y ∷ []))
  is_nego : (t x : ℕ) → kind_at a t ≡ 2 → Tm a t x → Is a (node 145 0 0 (x ∷ []))
  is_bvt : (k t x y : ℕ) → 141 ≤ k → k ≤ 148 → (k ≡ 145 → ⊥) → kind_at a t ≡ 2 → Tm a t x → Tm a t y → Is a (node k 0 0 (x ∷ y ∷ []))
  is_zext : (t u n x : ℕ) → kind_at a t ≡ 2 → kind_at a u ≡ 2 → Tm a u x → par_at a t ≡ par_at a u + n → Is a (node 149 t n (x ∷ []))
  is_mem : (t x s : ℕ) → kind_at a t ≡ 4 → Tm a (arg_at a t 0) x → Tm a t s → Is a (node 150 0 0 (x ∷ s ∷ []))
  is_sub : (t x y : ℕ) → kind_at a t ≡ 4 → Tm a t x → Tm a t y → Is a (node 151 0 0 (x ∷ y ∷ []))
  is_int : (t x y : ℕ) → kind_at a t ≡ 4 → Tm a t x → Tm a t y → Is a (node 152 t 0 (x ∷ y ∷ []))
  is_get : (t x : ℕ) → kind_at a t ≡ 3 → Tm a t x → Is a (node 155 (arg_at a t 0) 0 (x ∷ []))
  is_fld : (t u k x : ℕ) → kind_at a t ≡ 5 → Tm a t x → small k ≡ true → field (mem_at a t) k ≡ some u → Is a (node 156 u k (x ∷ []))

-- ---- members that are positions

pub args-plain : (n : Node) → (n.kind ≡ 5 → ⊥) → (n.kind ≡ 21 → ⊥) → args n ≡ n.mem
unfolding positions
args-plain n h k = rw (ne_eqb n.kind 5 h, ne_eqb n.kind 21 k, positions)

pub args_fields : (n : Node) → (n.kind ≡ 5) ⊎ (n.kind ≡ 21) → args n ≡ odds n.mem
unfolding positions
args_fields n (inl h) = rw (h, positions)
args_fields n (inr h) = rw (h, positions)

-- ---- from the test to the case

module _ (a : Nodes) (n : Node) where
  -- the node is the one of the case
  as_is : {k t q : ℕ} {ms : List ℕ} → n.kind ≡ k → n.type ≡ t → n.par ≡ q → n.mem ≡ ms → Is a (node k t q ms) → Is a n
  as_is e f g h v = subst (Is a) (node_eq n e f g h) v

  module _ (t : n.type ≡ 0) (p : all (is_type a) (args n) ≡ true) where
    -- a single member
    first : {k : ℕ} → n.kind ≡ k → k ≤ 4 → length n.mem ≡ 1 → is_type a (get_or n.mem 0 0) ≡ true
    first e h l =
        all_get (is_type a) n.mem (subst (λ (r : List ℕ). all (is_type a) r ≡ true) (args-plain n (λ z. omega arith) (λ z. omega arith)) p) 0 (omega arith)

    view_type : type_test a n.kind n.par n.mem (get_or n.mem 0 0) ≡ true → Is a n
    unfolding type_test
    view_type e =
        branch _ _ _ e
        (λ k h. let w = every-all _ h in
        as_is (eqb-true _ _ k) t (eqb-true _ _ w.1.0) (mem0 _ (eqb-true _ _ w.0)) is_bool_lem)
        (λ k1 e. branch _ _ _ e
        (λ k h. let w = every-all _ h in
        as_is (eqb-true _ _ k) t refl (mem0 _ (eqb-true _ _ w.0)) (is_bv_lem n.par (leb-true _ _ w.1.0) (leb-true _ _ w.1.1.0)))
        (λ k2 e. branch _ _ _ e
        (λ k h. let w = every-all _ h in let l = eqb-true _ _ w.0 in
        as_is (eqb-true _ _ k) t (eqb-true _ _ w.1.0) (mem1 _ l) (is_opt_lem _ (first (eqb-true _ _ k) (omega arith) l)))
        (λ k3 e. branch _ _ _ e
        (λ k h. let w = every-all _ h in let l = eqb-true _ _ w.0 in
        as_is (eqb-true _ _ k) t (eqb-true _ _ w.1.0) (mem1 _ l) (is_set _ (first (eqb-true _ _ k) (omega arith) l) w.1.1.0))
        (λ k4 h. let w = every-all _ h in
        as_is (eqb-true _ _ w.0) t (eqb-true _ _ w.1.0) refl
        (is_rec _ w.1.1.0 (subst (λ (r : List ℕ). all (is_type a) r ≡ true) (args_fields n (inl (eqb-true _ _ w.0))) p))))))

  module _ (t : is_type a n.type ≡ true) (p : all (is_term a) (args n) ≡ true) where
    plain : {k : ℕ} → n.kind ≡ k → 16 ≤ k → (k ≡ 21 → ⊥) → all (is_term a) n.mem ≡ true
    plain e h g = subst (λ (r : List ℕ). all (is_term a) r ≡ true) (args-plain n (λ z. omega arith) (λ z. g (sym e ∙ z))) p

    view_maker : maker_test a n.kind n.type n.par n.mem (get_or n.mem 0 0) ≡ true → Is a n
    unfolding maker_test
    view_maker e =
        branch _ _ _ e
        (λ k h. let w = every-all _ h in
        as_is (eqb-true _ _ k) (eqb-true _ _ w.1.1.0) refl (mem0 _ (eqb-true _ _ w.0)) (is_blit _ (leb-true _ _ w.1.0)))
        (λ k1 e. branch _ _ _ e
        (λ k h. let w = every-all _ h in
        as_is (eqb-true _ _ k) refl refl (mem0 _ (eqb-true _ _ w.0)) (is_lit_lem _ _ (eqb-true _ _ w.1.0) (ltb-true _ _ w.1.1.0)))
        (λ k2 e. branch _ _ _ e
        (λ k h. let w = every-all _ h in
        as_is (eqb-true _ _ k) refl (eqb-true _ _ w.1.0) (mem0 _ (eqb-true _ _ w.0)) (is_none _ (eqb-true _ _ w.1.1.0)))
        (λ k3 e. branch _ _ _ e
        (λ k h. let w = every-all _ h in let l = eqb-true _ _ w.0 in
        as_is (eqb-true _ _ k) refl (eqb-true _ _ w.1.0) (mem1 _ l)
        (is_some _ _ (eqb-true _ _ w.1.1.0) (record { isterm = all_get (is_term a) n.mem (plain (eqb-true _ _ k) (omega arith) (λ z. omega arith)) 0 (omega arith); typed = eqb-true _ _ w.1.1.1.0 })))
        (λ k4 e. branch _ _ _ e
        (λ k h. let w = every-all _ h in
        as_is (eqb-true _ _ k) refl (eqb-true _ _ w.1.0) refl
        (is_sett _ _ (eqb-true _ _ w.1.1.0) (leb-true _ _ w.0) w.1.1.1.0 (plain (eqb-true _ _ k) (omega arith) (λ z. omega arith)) w.1.1.1.1.0))
        (λ k5 e. branch _ _ _ e
        (λ k h. let w = every-all _ h in
        as_is (eqb-true _ _ k) refl (eqb-true _ _ w.1.0) refl
        (is_recd _ _ (eqb-true _ _ w.1.1.0) w.0 (subst (λ (r : List ℕ). all (is_term a) r ≡ true) (args_fields n (inr (eqb-true _ _ k))) p) w.1.1.1.0))
        (λ k6 h. let w = every-all _ h in
        as_is (eqb-true _ _ w.0) refl refl (mem0 _ (eqb-true _ _ w.1.0)) (is_var _ _ t w.1.1.0)))))))

    module _ (big : 99 < n.kind) where
      tm : (i : ℕ) {t : ℕ} → i < length n.mem → type_at a (get_or n.mem i 0) ≡ t → Tm a t (get_or n.mem i 0)
      tm i h e = record { isterm = all_get (is_term a) n.mem (plain refl (omega arith) (λ z. omega arith)) i h; typed = e }

      is1 : {k t q : ℕ} → n.kind ≡ k → n.type ≡ t → n.par ≡ q → length n.mem ≡ 1 → Is a (node k t q (get_or n.mem 0 0 ∷ [])) → Is a n
      is1 e f g l v = as_is e f g (mem1 _ l) v

      is2 : {k t q : ℕ} → n.kind ≡ k → n.type ≡ t → n.par ≡ q → length n.mem ≡ 2 → Is a (node k t q (get_or n.mem 0 0 ∷ get_or n.mem 1 0 ∷ [])) → Is a n
      is2 e f g l v = as_is e f g (mem2 _ l) v

      view_core : core_test a n.kind n.type n.par (length n.mem) (get_or n.mem 0 0) (get_or n.mem 1 0) (get_or n.mem 2 0) ≡ true → Is a n
      unfolding core_test
      view_core e =
          branch _ _ _ e
          (λ k h. let w = every-all _ h in let l = eqb-true (length n.mem) 1 w.0 in
          is1 (eqb-true _ _ k) (eqb-true _ _ w.1.1.0) (eqb-true _ _ w.1.0) l (is_not _ (tm 0 (omega arith) (eqb-true _ _ w.1.1.1.0))))
          (λ k1 e. branch _ _ _ e
          (λ k h. let w = every-all _ h in let l = eqb-true (length n.mem) 2 w.0 in
          is2 (eqb-true _ _ k) (eqb-true _ _ w.1.1.0) (eqb-true _ _ w.1.0) l
          (is_and _ _ (tm 0 (omega arith) (eqb-true _ _ w.1.1.1.0)) (tm 1 (omega arith) (eqb-true _ _ w.1.1.1.1.0))))
          (λ k2 e. branch _ _ _ e
          (λ k h. let w = every-all _ h in let l = eqb-true (length n.mem) 2 w.0 in
          is2 (eqb-true _ _ k) (eqb-true _ _ w.1.1.0) (eqb-true _ _ w.1.0) l
          (is_or _ _ (tm 0 (omega arith) (eqb-true _ _ w.1.1.1.0)) (tm 1 (omega arith) (eqb-true _ _ w.1.1.1.1.0))))
          (λ k3 e. branch _ _ _ e
          (λ k h. let w = every-all _ h in let l = eqb-true (length n.mem) 2 w.0 in
          is2 (eqb-true _ _ k) (eqb-true _ _ w.1.1.0) (eqb-true _ _ w.1.0) l
          (is_eq_lem _ _ _ (tm 0 (omega arith) refl) (tm 1 (omega arith) (eqb-true _ _ w.1.1.1.0))))
          (λ k4 e. branch _ _ _ e
          (λ k h. let w = every-all _ h in let l = eqb-true (length n.mem) 3 w.0 in
          as_is (eqb-true _ _ k) refl (eqb-true _ _ w.1.0) (mem3 _ l)
          (is_ite _ _ _ _ (tm 0 (omega arith) (eqb-true _ _ w.1.1.0)) (tm 1 (omega arith) (eqb-true _ _ w.1.1.1.0)) (tm 2 (omega arith) (eqb-true _ _ w.1.1.1.1.0))))
          (λ k5 h. let w = every-all _ h in let l = eqb-true (length n.mem) 1 w.1.0 in
          is1 (eqb-true _ _ w.0) refl refl l (is_uf _ _ _ t w.1.1.0 (tm 0 (omega arith) refl).isterm))))))

      view_bv : 129 < n.kind → n.kind ≤ 149 → bv_test a n.kind n.type n.par (length n.mem) (get_or n.mem 0 0) (get_or n.mem 1 0) ≡ true → Is a n
      unfolding bv_test
      view_bv lo hi e =
          branch _ _ _ e
          (λ k h. let w = every-all _ h in let l = eqb-true (length n.mem) 1 w.0 in
          is1 (eqb-true _ _ k) refl (eqb-true _ _ w.1.0) l (is_neg _ _ (eqb-true _ _ w.1.1.0) (tm 0 (omega arith) (eqb-true _ _ w.1.1.1.0))))
          (λ k1 e. let n1 = eqb-false n.kind 130 k1 in branch _ _ _ e
          (λ k h. let w = every-all _ h in let l = eqb-true (length n.mem) 2 w.0 in
          is2 refl refl (eqb-true _ _ w.1.0) l
          (is_bvn _ _ _ _ (omega arith) (leb-true _ _ k) (eqb-true _ _ w.1.1.0) (tm 0 (omega arith) (eqb-true _ _ w.1.1.1.0)) (tm 1 (omega arith) (eqb-true _ _ w.1.1.1.1.0))))
          (λ k2 e. let n2 = leb-false n.kind 140 k2 in branch _ _ _ e
          (λ k h. let w = every-all _ h in let l = eqb-true (length n.mem) 1 w.0 in
          is1 (eqb-true _ _ k) (eqb-true _ _ w.1.1.0) (eqb-true _ _ w.1.0) l (is_nego _ _ (eqb-true _ _ w.1.1.1.0) (tm 0 (omega arith) refl)))
          (λ k3 e. branch _ _ _ e
          (λ k h. let w = every-all _ h in let l = eqb-true (length n.mem) 1 w.0 in
          is1 (eqb-true _ _ k) refl refl l
          (is_zext _ _ _ _ (eqb-true _ _ w.1.0) (eqb-true _ _ w.1.1.0) (tm 0 (omega arith) refl) (eqb-true _ _ w.1.1.1.0)))
          (λ k4 h. let n4 = eqb-false n.kind 149 k4 in let w = every-all _ h in let l = eqb-true (length n.mem) 2 w.0 in
          is2 refl (eqb-true _ _ w.1.1.0) (eqb-true _ _ w.1.0) l
          (is_bvt _ _ _ _ (omega arith) (omega arith) (eqb-false _ _ k3) (eqb-true _ _ w.1.1.1.0) (tm 0 (omega arith) refl) (tm 1 (omega arith) (eqb-true _ _ w.1.1.1.1.0)))))))

      view_data : data_test a n.kind n.type n.par (length n.mem) (get_or n.mem 0 0) (get_or n.mem 1 0) ≡ true → Is a n
      unfolding data_test
      view_data e =
          branch _ _ _ e
          (λ k h. let w = every-all _ h in let l = eqb-true (length n.mem) 2 w.0 in
          is2 (eqb-true _ _ k) (eqb-true _ _ w.1.1.0) (eqb-true _ _ w.1.0) l
          (is_mem _ _ _ (eqb-true _ _ w.1.1.1.0) (tm 0 (omega arith) (eqb-true _ _ w.1.1.1.1.0)) (tm 1 (omega arith) refl)))
          (λ k1 e. branch _ _ _ e
          (λ k h. let w = every-all _ h in let l = eqb-true (length n.mem) 2 w.0 in
          is2 (eqb-true _ _ k) (eqb-true _ _ w.1.1.0) (eqb-true _ _ w.1.0) l
          (is_sub _ _ _ (eqb-true _ _ w.1.1.1.0) (tm 0 (omega arith) refl) (tm 1 (omega arith) (eqb-true _ _ w.1.1.1.1.0))))
          (λ k2 e. branch _ _ _ e
          (λ k h. let w = every-all _ h in let l = eqb-true (length n.mem) 2 w.0 in
          is2 (eqb-true _ _ k) refl (eqb-true _ _ w.1.0) l
          (is_int _ _ _ (eqb-true _ _ w.1.1.0) (tm 0 (omega arith) (eqb-true _ _ w.1.1.1.0)) (tm 1 (omega arith) (eqb-true _ _ w.1.1.1.1.0))))
          (λ k3 e. branch _ _ _ e
          (λ k h. let w = every-all _ h in let l = eqb-true (length n.mem) 1 w.0 in
          is1 (eqb-true _ _ k) (sym (eqb-true _ _ w.1.1.1.0)) (eqb-true _ _ w.1.0) l (is_get _ _ (eqb-true _ _ w.1.1.0) (tm 0 (omega arith) refl)))
          (λ k4 h. let w = every-all _ h in let l = eqb-true (length n.mem) 1 w.1.0 in
          is1 (eqb-true _ _ w.0) refl refl l (is_fld _ _ _ _ (eqb-true _ _ w.1.1.1.0) (tm 0 (omega arith) refl) w.1.1.0 (holds-field _ _ _ w.1.1.1.1.0))))))

pub view : (a : Nodes) (n : Node) → good_node a n ≡ true → Is a n
unfolding good_node kind_test
view a n e =
    let w = every-all _ e in
    branch _ _ _ w.1.0
    (λ q h. let r = placed-type a n (leb-true _ _ q) e in view_type a n r.0 r.1 h)
    (λ q h. let r = placed-term a n (leb-false _ _ q) e in
    branch _ _ _ h (λ j g. view_maker a n r.0 r.1 g)
    (λ j g. let big = leb-false n.kind 99 j in
    branch _ _ _ g (λ i f. view_core a n r.0 r.1 big f)
    (λ i f. branch _ _ _ f (λ l d. view_bv a n r.0 r.1 big (leb-false _ _ i) (leb-true _ _ l) d)
    (λ l d. view_data a n r.0 r.1 big d))))

-- the test of a good node's kind
pub tested : (a : Nodes) (n : Node) → good_node a n ≡ true
    → kind_test a n.kind n.type n.par n.mem (get_or n.mem 0 0) (get_or n.mem 1 0) (get_or n.mem 2 0) ≡ true
unfolding good_node
tested a n g = (every-all _ g).1.0

-- every kind is above 0
pub good_pos : (a : Nodes) (n : Node) → good_node a n ≡ true → 1 ≤ n.kind
unfolding kind_test type_test every
good_pos a n g = go n.kind (tested a n g)
  where
    go : (k : ℕ) → kind_test a k n.type n.par n.mem (get_or n.mem 0 0) (get_or n.mem 1 0) (get_or n.mem 2 0) ≡ true → 1 ≤ k
    go zero e = t≢f (sym e)
    go (suc k) e = omega arith
