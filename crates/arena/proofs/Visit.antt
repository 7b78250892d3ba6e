-- The walk over members decides both tests, and what its flags say.
use mathlib.Core.Path.{◌≡◌, refl, sym, ap, ◌∙◌, subst}
use Prim.Native.Nat.{ℕ, ◌+◌, ◌/◌, ◌≤◌, ◌<◌}
use native.Mathlib.Omega.{arith}
use mathlib.Core.Bool.{Bool, true, false}
use mathlib.Core.List.{List, []}
use lib.ListN.{length, drop, get_or, set, replicate}
use lib.Dec.{leb}
use borrow.Author.Tests.{eqb-true, eqb-false, leb-true, leb-false, le-leb, lt-leb}
use Rattle.arena.specs.Lists.{all}
use Rattle.arena.specs.Nodes.{Nodes, node_at, kind_at, type_at, par_at, mem_at, arg_at, args}
use Rattle.arena.specs.Cells.{used}
use Rattle.arena.specs.Walks.{lit_rule, is_lit, free_rule, set_free}
use Rattle.arena.specs.WellFormed.{is_type, is_term, type_test, maker_test, kind_test, Below}
use Rattle.arena.specs.Visit.{clean, Known, Walked}
use Rattle.arena.proofs.Bools.{every-all, all-every, branch}
use Rattle.arena.proofs.Runs.{mem0, all0, all_agree}
use Rattle.arena.proofs.Chain.{Chain, arg_start, place, type-kind, kind-type, term-kind, term_pos, term_arg, type_arg}
use Rattle.arena.proofs.View.{args-plain, tested}
use Rattle.arena.proofs.Formed.{mark_is}
use Rattle.arena.proofs.Loops.{all_hit, all_miss, all_end}
use Rattle.arena.proofs.Rules.{walk_pass, walk_fail, walk_ask, lit_pass, lit_ask, lit_fail, free_fail, free_ask}
use Rattle.arena.proofs.Lent.{sure_slot, sure_more, sure_none}

-- ---- clean, by sort and by kind

pub clean-type : (a : Nodes) (p : ℕ) → is_type a p ≡ true → clean a p ≡ set_free a p
unfolding clean
clean-type a p e = rw (le-leb (kind_at a p) 15 (type-kind a p e).1)

pub clean-term : (a : Nodes) (p : ℕ) → is_term a p ≡ true → clean a p ≡ is_lit a p
unfolding clean
clean-term a p e = rw (lt-leb (kind_at a p) 15 (term-kind a p e))

module _ {a : Nodes} (c : Chain a) (p : ℕ) (h : 1 ≤ kind_at a p) where
  -- a type or a term
  by_sort {ℓ} : {G : Type ℓ} → (is_type a p ≡ true → G) → (is_term a p ≡ true → G) → G
  by_sort {G = G} f g = go (leb (kind_at a p) 15) refl
    where
      go : (b : Bool) → leb (kind_at a p) 15 ≡ b → G
      go true e = f (all-every _ (le-leb 1 (kind_at a p) h, (e, tt)))
      go false e = g (le-leb 16 (kind_at a p) (leb-false (kind_at a p) 15 e))

  tested_at : (o : Nodes) × (kind_test o (kind_at a p) (type_at a p) (par_at a p) (mem_at a p) (arg_at a p 0) (arg_at a p 1) (arg_at a p 2) ≡ true)
  tested_at = let pl = place c p h in (pl.older, tested pl.older (node_at a p) pl.good)

  -- there is no type above Record
  type_few : kind_at a p ≤ 15 → kind_at a p ≤ 5
  unfolding kind_test type_test
  type_few k =
      let e : type_test tested_at.0 (kind_at a p) (par_at a p) (mem_at a p) (arg_at a p 0) ≡ true = rw (le-leb (kind_at a p) 15 k, kind_test) at tested_at.1 in
      branch _ _ _ e (λ j g. let x = eqb-true (kind_at a p) 1 j in omega arith)
      (λ j e. branch _ _ _ e (λ j g. let x = eqb-true (kind_at a p) 2 j in omega arith)
      (λ j e. branch _ _ _ e (λ j g. let x = eqb-true (kind_at a p) 3 j in omega arith)
      (λ j e. branch _ _ _ e (λ j g. let x = eqb-true (kind_at a p) 4 j in omega arith)
      (λ j e. let w = every-all _ e in let x = eqb-true (kind_at a p) 5 w.0 in omega arith))))

  -- Bool and Bitvec have no members
  pub type_bare : kind_at a p ≤ 2 → args (node_at a p) ≡ []
  unfolding kind_test type_test
  type_bare k =
      let e : type_test tested_at.0 (kind_at a p) (par_at a p) (mem_at a p) (arg_at a p 0) ≡ true = rw (le-leb (kind_at a p) 15 (omega arith), kind_test) at tested_at.1 in
      args-plain (node_at a p) (λ z. omega arith) (λ z. omega arith) ∙ mem0 (mem_at a p)
      (branch _ _ _ e (λ j g. let w = every-all _ g in eqb-true _ _ w.0)
      (λ n e. branch _ _ _ e (λ j g. let w = every-all _ g in eqb-true _ _ w.0)
      (λ n' e. let x = eqb-false (kind_at a p) 1 n in let y = eqb-false (kind_at a p) 2 n' in absurd (omega arith))))

  -- literals of bits and bools, and None, have no members
  lit_bare : 16 ≤ kind_at a p → kind_at a p ≤ 18 → args (node_at a p) ≡ []
  unfolding kind_test maker_test
  lit_bare lo hi =
      let e : maker_test tested_at.0 (kind_at a p) (type_at a p) (par_at a p) (mem_at a p) (arg_at a p 0) ≡ true =
      rw (lt-leb (kind_at a p) 15 lo, le-leb (kind_at a p) 99 (omega arith), kind_test) at tested_at.1 in
      args-plain (node_at a p) (λ z. omega arith) (λ z. omega arith) ∙ mem0 (mem_at a p)
      (branch _ _ _ e (λ j g. let w = every-all _ g in eqb-true _ _ w.0)
      (λ n e. branch _ _ _ e (λ j g. let w = every-all _ g in eqb-true _ _ w.0)
      (λ n' e. branch _ _ _ e (λ j g. let w = every-all _ g in eqb-true _ _ w.0)
      (λ n'' e. let x = eqb-false (kind_at a p) 16 n in let y = eqb-false (kind_at a p) 17 n' in let z = eqb-false (kind_at a p) 18 n'' in absurd (omega arith)))))

  pub clean_set : kind_at a p ≡ 4 → clean a p ≡ false
  clean_set e =
      clean-type a p (kind-type a p 4 e (omega arith) (omega arith)) ∙ walk_fail free_rule c p h (free_fail (kind_at a p) e)

  pub clean-app : 21 < kind_at a p → clean a p ≡ false
  clean-app e =
      clean-term a p (le-leb 16 (kind_at a p) (omega arith)) ∙ walk_fail lit_rule c p h (lit_fail (kind_at a p) e)

  pub clean-args : (kind_at a p ≡ 4 → ⊥) → kind_at a p ≤ 21 → clean a p ≡ all (clean a) (args (node_at a p))
  clean-args n4 hi = by_sort
      (λ t.
      clean-type a p t ∙ walk_ask free_rule c p h (free_ask (kind_at a p) n4 (type_few (type-kind a p t).1))
      ∙ sym (all_agree (is_type a) (clean a) (set_free a) (clean-type a) (args (node_at a p)) (type_arg c p t)))
      (λ t.
      clean-term a p t ∙ lit_args (term-kind a p t) (leb (kind_at a p) 18) refl
      ∙ sym (all_agree (is_term a) (clean a) (is_lit a) (clean-term a) (args (node_at a p)) (term_arg c p t)))
    where
      lit_args : 16 ≤ kind_at a p → (b : Bool) → leb (kind_at a p) 18 ≡ b → is_lit a p ≡ all (is_lit a) (args (node_at a p))
      lit_args k true e =
          walk_pass lit_rule c p h (lit_pass (kind_at a p) k (leb-true _ _ e))
          ∙ sym (ap (all (is_lit a)) (lit_bare k (leb-true _ _ e)) ∙ all0 (is_lit a))
      lit_args k false e = walk_ask lit_rule c p h (lit_ask (kind_at a p) (leb-false _ _ e) hi)

-- ---- the walk at a node

module _ {a : Nodes} (c : Chain a) (p : ℕ) (h : 1 ≤ kind_at a p) {flags : List Bool} (K : Known a flags) where
  pub walk_set : kind_at a p ≡ 4 → Walked a p false flags
  walk_set e = record { answer = sym (clean_set c p h e); known = K }

  pub walk_app : 21 < kind_at a p → Walked a p false flags
  walk_app k = record { answer = sym (clean-app c p h k); known = K }

  pub slot_fits : p / 4 < length flags
  slot_fits = sure_slot K p h

-- member i, which the loop has come to
module _ {a : Nodes} (c : Chain a) (p : ℕ) (h : 1 ≤ kind_at a p) (i x : ℕ) (l : i < length (args (node_at a p))) (e : x ≡ get_or (args (node_at a p)) i 0) where
  pub arg_stands : 1 ≤ kind_at a x
  arg_stands = subst (λ (y : ℕ). 1 ≤ kind_at a y) (sym e) (arg_start c p h i l).0

  pub arg_falls : x < p
  arg_falls = let y = (arg_start c p h i l).1 in omega arith

  module _ (at : clean a p ≡ all (clean a) (drop i (args (node_at a p)))) {r : Bool} {flags : List Bool} (W : Walked a x r flags) where
    member : clean a (get_or (args (node_at a p)) i 0) ≡ r
    member = ap (clean a) (sym e) ∙ sym W.answer

    pub walk_fails : r ≡ false → Walked a p false flags
    walk_fails z = record { answer = sym (at ∙ all_miss (clean a) (args (node_at a p)) i l (member ∙ z)); known = W.known }

    pub walk_on : r ≡ true → clean a p ≡ all (clean a) (drop (i + 1) (args (node_at a p)))
    walk_on z = at ∙ all_hit (clean a) (args (node_at a p)) i l (member ∙ z)

-- all have passed: so does the node, and its flag says so
pub walk_ends : {a : Nodes} (p i : ℕ) (h : 1 ≤ kind_at a p) {flags : List Bool} → length (args (node_at a p)) ≤ i
    → clean a p ≡ all (clean a) (drop i (args (node_at a p)))
    → Known a flags → Walked a p true (set flags (p / 4) true)
walk_ends {a} p i h l at K =
    let yes : clean a p ≡ true = at ∙ all_end (clean a) (args (node_at a p)) i l in
    record { answer = sym yes; known = sure_more K p h yes }

-- no flag is set at first
pub known_none : {c : List ℕ} {m : ℕ} → Below c m → Known (used c m) (replicate 16384 false)
known_none A = sure_none 16384 (let x = mark_is A in let y = A.fits in let z = A.short in omega arith)

-- ---- the two tests

module _ {a : Nodes} (c : Chain a) (p : ℕ) (t : is_term a p ≡ true) where
  pub lit_simple : kind_at a p ≤ 18 → true ≡ is_lit a p
  lit_simple h = sym (walk_pass lit_rule c p (term_pos a p t) (lit_pass _ (term-kind a p t) h))

  pub lit_app : 21 < kind_at a p → false ≡ is_lit a p
  lit_app h = sym (walk_fail lit_rule c p (term_pos a p t) (lit_fail _ h))

  pub lit_walked : (r : Bool) {flags : List Bool} → Walked a p r flags → r ≡ is_lit a p
  lit_walked r W = W.answer ∙ clean-term a p t

module _ {a : Nodes} (c : Chain a) (p : ℕ) (t : is_type a p ≡ true) where
  pub type-stands : 1 ≤ kind_at a p
  type-stands = (type-kind a p t).0

  pub set_here : kind_at a p ≡ 4 → false ≡ set_free a p
  set_here h = sym (walk_fail free_rule c p type-stands (free_fail _ h))

  pub set_simple : kind_at a p ≤ 2 → true ≡ set_free a p
  set_simple h =
      sym (walk_ask free_rule c p type-stands (free_ask _ (λ z. omega arith) (omega arith))
      ∙ ap (all (set_free a)) (type_bare c p type-stands (omega arith)) ∙ all0 (set_free a))

  pub set_walked : (r : Bool) {flags : List Bool} → Walked a p r flags → r ≡ set_free a p
  set_walked r W = W.answer ∙ clean-type a p t
