-- The law of 24 eq.
use mathlib.Core.Path.{◌≡◌, refl, sym, ap, ap₂, ◌∙◌}
use Prim.Native.Nat.{ℕ}
use native.Mathlib.Omega.{arith}
use mathlib.Core.Bool.{Bool, true, false, not, cond, ◌&&◌, ◌||◌}
use mathlib.Core.Logic.{◌⊎◌, inl, inr}
use mathlib.Core.List.{[], ◌∷◌}
use lib.Dec.{eqb}
use borrow.Author.Tests.{eqb-true, eqb-false}
use Rattle.arena.specs.Nodes.{F, T, node, Nodes, kind_at, type_at, arg_at, elem_at, positions}
use Rattle.arena.specs.Walks.{is_lit}
use Rattle.arena.specs.Values.{Ty, tbool, topt, bool, eq_v}
use Rattle.arena.specs.Meaning.{ty_of, ty_at, Interp, Good, core_means, term, mean_node, meaning}
use Rattle.arena.proofs.Bools.{t≢f, and_l, and_r, or_cases}
use Rattle.arena.proofs.Chain.{WF}
use Rattle.arena.proofs.View.{is_eq_lem}
use Rattle.arena.proofs.Types.{ty_opt, ty_bool}
use Rattle.arena.proofs.Sets.{eq_v_refl, eq_v_ne, eq_v_sym, eq_v_some, eq_v_some_none, eq_v_true, eq_v_false}
use Rattle.arena.proofs.Sound.{bool_at_lem}
use Rattle.arena.proofs.Canon.{canon}
use Rattle.arena.proofs.Known.{Lit, B, none_means, some_node}
use Rattle.factory.specs.Makers.{bool_at}
use Rattle.factory.specs.Core.{eq_simplify, eq_t}
use Rattle.factory.specs.Meanings.{means24}
use Rattle.factory.proofs.Law.{Typed, tm_typed, bool_tm, tm_bool, same_tm, opt_elem, Law, applied, reads, law_if}
use Rattle.factory.proofs.Made.{bool-at_tm, bool-at-means, says}
use Rattle.factory.proofs.Logic.{holds, not_law}

-- a bool against a known one
eq_v-bool : (c x : Bool) → eq_v (bool x) (bool c) ≡ cond c x (not x)
eq_v-bool true x = eq_v_true x
eq_v-bool false x = eq_v_false x

-- ---- the type of a Bool literal is Bool, and so is that of the term that it is compared with

module _ {a : Nodes} (w : WF a) {y : Ty} where
  pub bool-type_of : (b : Bool) (t : ℕ) → t ≡ bool_at b → Typed a y t → y ≡ tbool
  bool-type_of b t e m = sym m.typed ∙ ap (ty_at a) e ∙ (tm_bool w (bool-at_tm w b)).typed

  pub as_bool_lem : {x : ℕ} → y ≡ tbool → Typed a y x → Typed a tbool x
  as_bool_lem e n = record { isterm = n.isterm; typed = n.typed ∙ e }

  -- the inner term of a Some
  pub some_type : (t : ℕ) → kind_at a t ≡ 19 → Typed a y t → y ≡ topt (ty_of a (elem_at a t))
  some_type t k m = sym m.typed ∙ ty_opt w.chain (type_at a t) (some_node w t k).opt

pub some_inner : {a : Nodes} (w : WF a) {z : Ty} (t : ℕ) → kind_at a t ≡ 19 → Typed a (topt z) t → Typed a z (arg_at a t 0)
some_inner w t k m = tm_typed (opt_elem w m) (some_node w t k).under

-- a Bool literal against a Bool term
module _ (I : Interp) (G : Good I) {a : Nodes} (w : WF a) (x : ℕ) (m : Typed a tbool x) (c : Bool) (t : ℕ) (e : t ≡ bool_at c) where
  const_eq' : cond c (B I a x) (not (B I a x)) ≡ eq_v (meaning I a x) (meaning I a t)
  const_eq' = sym (eq_v-bool c (B I a x)) ∙ ap₂ eq_v (bool_at_lem I G w x (bool_tm w m)) (sym (ap (meaning I a) e ∙ bool-at-means w I c))

  const_eq : cond c (B I a x) (not (B I a x)) ≡ eq_v (meaning I a t) (meaning I a x)
  const_eq = const_eq' ∙ eq_v_sym (meaning I a x) (meaning I a t)

module _ {a : Nodes} (w : WF a) {y : Ty} (t u : ℕ) (m : Typed a y t) (n : Typed a y u) where
  simplify_law : Law a (Lit a t × Lit a u) tbool (λ I. means24 (meaning I a t) (meaning I a u)) (eq_simplify a t u)
  unfolding eq_simplify mean_node term core_means positions
  simplify_law =
      law_if (eqb t u) _ _
      (λ e. says w true (λ I G. ap bool (sym (ap (λ (x : ℕ). eq_v (meaning I a t) (meaning I a x)) (sym (eqb-true t u e)) ∙ eq_v_refl (meaning I a t)))))
      (λ e1. law_if (is_lit a t && is_lit a u) _ _
      (λ e. says w false (λ I G. ap bool (sym (eq_v_ne (meaning I a t) (meaning I a u)
      (λ q. eqb-false t u e1 (canon I w t u m.isterm n.isterm (and_l _ _ e) (and_r (is_lit a t) _ e) (sym (same_tm w m n).typed) q))))))
      (λ e2. law_if (eqb t T) _ _
      (λ e. let q = eqb-true t T e in let k = as_bool_lem w (bool-type_of w true t q m) n in holds w u k (λ I G. ap bool (const_eq I G w u k true t q)) (λ l. l.1))
      (λ e3. law_if (eqb u T) _ _
      (λ e. let q = eqb-true u T e in let k = as_bool_lem w (bool-type_of w true u q n) m in holds w t k (λ I G. ap bool (const_eq' I G w t k true u q)) (λ l. l.0))
      (λ e4. law_if (eqb t F) _ _
      (λ e. let q = eqb-true t F e in let k = as_bool_lem w (bool-type_of w false t q m) n in reads (not_law w u k) (λ l. l.1) (λ I G. ap bool (const_eq I G w u k false t q)))
      (λ e5. law_if (eqb u F) _ _
      (λ e. let q = eqb-true u F e in let k = as_bool_lem w (bool-type_of w false u q n) m in reads (not_law w t k) (λ l. l.0) (λ I G. ap bool (const_eq' I G w t k false u q)))
      (λ e6. applied (node 124 0 0 (t ∷ u ∷ [])) w (omega arith) (is_eq_lem t u (type_at a t) (record { isterm = m.isterm; typed = refl }) (same_tm w m n)) (ty_bool w.base)
      (λ l. t≢f (sym (rw l.0 l.1) ∙ e2))))))))

  -- Some against None
  apart : (I : Interp) → ((eqb (kind_at a t) 19 && eqb (kind_at a u) 18) ≡ true) ⊎ ((eqb (kind_at a t) 18 && eqb (kind_at a u) 19) ≡ true) → false ≡ eq_v (meaning I a t) (meaning I a u)
  apart I (inl e) =
      sym (ap₂ eq_v ((some_node w t (eqb-true (kind_at a t) 19 (and_l _ _ e))).means I) (none_means I w u (eqb-true (kind_at a u) 18 (and_r (eqb (kind_at a t) 19) _ e))) ∙ eq_v_some_none (meaning I a (arg_at a t 0)))
  apart I (inr e) =
      sym (eq_v_sym (meaning I a t) (meaning I a u)
      ∙ ap₂ eq_v ((some_node w u (eqb-true (kind_at a u) 19 (and_r (eqb (kind_at a t) 18) _ e))).means I) (none_means I w t (eqb-true (kind_at a t) 18 (and_l _ _ e))) ∙ eq_v_some_none (meaning I a (arg_at a u 0)))

pub eq_law : {a : Nodes} → WF a → {y : Ty} (t u : ℕ) → Typed a y t → Typed a y u → Law a (Lit a t × Lit a u) tbool (λ I. means24 (meaning I a t) (meaning I a u)) (eq_t a t u)
unfolding eq_t
eq_law {a} w {y} t u m n =
    law_if (eqb (kind_at a t) 19 && eqb (kind_at a u) 19) _ _
    (λ e.
    let kt = eqb-true (kind_at a t) 19 (and_l _ _ e) in
    let ku = eqb-true (kind_at a u) 19 (and_r (eqb (kind_at a t) 19) _ e) in
    let q = some_type w t kt m in
    let x = some_node w t kt in
    let z = some_node w u ku in
    reads (simplify_law w (arg_at a t 0) (arg_at a u 0) (tm_typed refl x.under) (some_inner w u ku (record { isterm = n.isterm; typed = n.typed ∙ q }))) (λ l. (x.lits l.0, z.lits l.1))
    (λ I G. ap bool (sym (ap₂ eq_v (x.means I) (z.means I) ∙ eq_v_some (meaning I a (arg_at a t 0)) (meaning I a (arg_at a u 0))))))
    (λ e1. law_if (eqb (kind_at a t) 19 && eqb (kind_at a u) 18 || eqb (kind_at a t) 18 && eqb (kind_at a u) 19) _ _
    (λ e. says w false (λ I G. ap bool (apart w t u m n I (or_cases (eqb (kind_at a t) 19 && eqb (kind_at a u) 18) _ e))))
    (λ e2. simplify_law w t u m n))
