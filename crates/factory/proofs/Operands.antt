-- What operands that fit are to the bitvector operations and to the steps on options. Assumes nothing.
use mathlib.Core.Path.{◌≡◌, refl, sym, ap, ◌∙◌, subst}
use Prim.Native.Nat.{ℕ, ◌+◌, ◌^◌, ◌≤◌, ◌<◌}
use mathlib.Core.List.{[]}
use native.Mathlib.Omega.{arith}
use mathlib.Core.Bool.{Bool, true, false, cond}
use Rattle.std.specs.Prelude.{Option, Some, None}
use mathlib.Core.Logic.{inl}
use lib.Dec.{eqb}
use borrow.Author.Tests.{eqb-true, leb-true}
use Rattle.smtlib.specs.Theory.{IsWidth}
use Rattle.arena.specs.Nodes.{node, Nodes, kind_at, type_at, par_at, arg_at, elem_at, width_at, put, Out}
use Rattle.arena.specs.WellFormed.{is_type, is_term}
use Rattle.arena.specs.Values.{Ty, tbool, topt, tset}
use Rattle.arena.specs.Meaning.{ty_of}
use Rattle.arena.proofs.Bools.{by_cases, every-all, and_l, and_r}
use Rattle.arena.proofs.Ext.{Ext}
use Rattle.arena.proofs.View.{is_bv_lem}
use Rattle.arena.proofs.Built.{TypeLaw, type_added}
use Rattle.arena.proofs.Steps.{put_ext}
use Rattle.arena.proofs.Chain.{WF, term_type}
use Rattle.arena.proofs.Types.{width_range}
use Rattle.arena.proofs.Known.{bv_node, some_node}
use Rattle.arena.proofs.Whole.{elem_type}
use Rattle.factory.specs.Fit.{Typed, Alike, OfKind}
use Rattle.factory.specs.Bitvectors.{is_bv, both_bv, extended_to, literals_at}
use Rattle.factory.specs.Makers.{bool_at}
use Rattle.factory.proofs.Law.{tm_typed, same_tm, opt_typed, set_typed, bv_typed, bv_kind, bv_width, typed_ext}
use Rattle.factory.proofs.Equal.{bool-type_of, as_bool_lem, some_type, some_inner}

module _ {a : Nodes} (w : WF a) where
  -- a type starts a node
  pub type_pos : (t : ℕ) → is_term a t ≡ true → 1 ≤ kind_at a (type_at a t)
  type_pos t h = leb-true 1 (kind_at a (type_at a t)) (every-all _ (term_type w.chain t h)).0

  -- the width of a bitvector term
  pub is_width : (t : ℕ) → OfKind a 2 t → IsWidth (width_at a t)
  is_width t k = let r = width_range w.chain (type_at a t) k.sort in record { least = r.0; most = r.1 }

  pub one_bv : (t : ℕ) → kind_at a t ≡ 17 → par_at a t < 2 ^ width_at a t
  one_bv t e = (bv_node w t e).below

  pub two_bv : (t u : ℕ) → Alike a t u → both_bv a t u ≡ true → (par_at a t < 2 ^ width_at a t) × par_at a u < 2 ^ width_at a t
  two_bv t u m e =
      let b = bv_node w u (eqb-true _ _ (and_r (eqb (kind_at a t) 17) _ e)) in (
        one_bv t (eqb-true _ _ (and_l (eqb (kind_at a t) 17) _ e)),
        subst (λ (s : ℕ). par_at a u < 2 ^ par_at a s) (same_tm w m.0 m.1).typed b.below,
      )

  -- the terms under two Somes of one type are of one type
  pub some_alike : (t u : ℕ) → kind_at a t ≡ 19 → kind_at a u ≡ 19 → Alike a t u → Alike a (arg_at a t 0) (arg_at a u 0)
  some_alike t u kt ku m =
      let q = some_type w t kt m.0 in
      let x : Typed a (ty_of a (elem_at a t)) (arg_at a t 0) = tm_typed refl (some_node w t kt).under in
      let z = some_inner w u ku (record { isterm = m.1.isterm; typed = m.1.typed ∙ q }) in
      (record { isterm = x.isterm; typed = refl }, record { isterm = z.isterm; typed = z.typed ∙ sym x.typed })

  -- an arm that is a Bool literal makes the other a Bool
  pub bool_arm : (b : Bool) (t u : ℕ) → t ≡ bool_at b → Alike a t u → Typed a tbool u
  bool_arm b t u e m = as_bool_lem w (bool-type_of w b t e m.0) m.1

  pub bool_arm' : (b : Bool) (t u : ℕ) → u ≡ bool_at b → Alike a t u → Typed a tbool t
  bool_arm' b t u e m = as_bool_lem w (bool-type_of w b u e m.1) m.0

  -- the wider type, v the width
  pub wider_type : {v t : ℕ} (n : ℕ) → v ≡ width_at a t → OfKind a 2 t → width_at a t + n ≤ 64 → TypeLaw a (node 2 0 (v + n) []) (put a (node 2 0 (v + n) []))
  wider_type {v} {t} n e k h = let i = is_width t k in type_added (node 2 0 (v + n) []) w (omega arith) (is_bv_lem (v + n) (omega arith) (omega arith))

  -- a bitvector keeps its width
  pub bv_keep : {b : Nodes} (n t : ℕ) → Ext a b → WF b → OfKind a 2 t → width_at a t + n ≤ 64 → OfKind b 2 t × width_at b t + n ≤ 64
  bv_keep n t e v k h =
      let m = typed_ext w e (bv_typed w t k.isterm k.sort) in
      (record { isterm = m.isterm; sort = bv_kind v m }, rw (bv_width v m) h)

  -- an option's element type
  pub opt_type : (t : ℕ) → OfKind a 3 t → is_type a (elem_at a t) ≡ true
  opt_type t k = elem_type w (type_at a t) (inl k.sort)

  pub opt_of : (t : ℕ) → OfKind a 3 t → Typed a (topt (ty_of a (elem_at a t))) t
  opt_of t k = opt_typed w t k.isterm k.sort

pub extended_ext : (a : Nodes) (n t ty : ℕ) → Ext a (extended_to a n t ty).arena
unfolding extended_to
extended_ext a n t ty = by_cases (λ (o : Out). Ext a o.arena) (is_bv a t) _ _ (λ e. put_ext a _) (λ e. put_ext a _)

-- the second of two sets of one type
pub set_alike : {a : Nodes} (w : WF a) {s t : ℕ} → OfKind a 4 s → Alike a s t → Typed a (tset (ty_of a (elem_at a s))) t
set_alike w {s} k m = record { isterm = m.1.isterm; typed = m.1.typed ∙ (set_typed w s k.isterm k.sort).typed }

-- two terms of one type
pub alike : {a : Nodes} {y : Ty} {x z : ℕ} → Typed a y x → Typed a y z → Alike a x z
alike m n = (record { isterm = m.isterm; typed = refl }, record { isterm = n.isterm; typed = n.typed ∙ sym m.typed })

-- what the search for two literals says
pub literals_some : (a : Nodes) (t u l r : ℕ) → literals_at a t u ≡ Some (l, r) → (both_bv a t u ≡ true) × (par_at a t ≡ l) × (par_at a u ≡ r)
unfolding literals_at
literals_some a t u l r = go (both_bv a t u) refl
  where
    go : (b : Bool) → both_bv a t u ≡ b → cond {A = Option (ℕ × ℕ)} b (Some (par_at a t, par_at a u)) None ≡ Some (l, r) → (both_bv a t u ≡ true) × (par_at a t ≡ l) × (par_at a u ≡ r)
    go true e h = let p : ◌≡◌ {A = ℕ × ℕ} (par_at a t, par_at a u) (l, r) = cc in (e, ap (λ (q : ℕ × ℕ). q.0) p, ap (λ (q : ℕ × ℕ). q.1) p)
    go false e h = absurd cc

pub literals_none : (a : Nodes) (t u : ℕ) → literals_at a t u ≡ None → both_bv a t u ≡ false
unfolding literals_at
literals_none a t u = go (both_bv a t u) refl
  where
    go : (b : Bool) → both_bv a t u ≡ b → cond {A = Option (ℕ × ℕ)} b (Some (par_at a t, par_at a u)) None ≡ None → both_bv a t u ≡ false
    go true e h = absurd cc
    go false e h = e
