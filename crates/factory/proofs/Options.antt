-- The laws of 55 option_get, 60 is_none, 61 is_some.
use mathlib.Core.Path.{◌≡◌, refl, sym, ap, ap₂, ◌∙◌}
use Prim.Native.Nat.{ℕ}
use native.Mathlib.Omega.{arith}
use mathlib.Core.Bool.{Bool, true, false, not, cond, ◌&&◌}
use mathlib.Core.Logic.{◌⊎◌, inl, inr}
use mathlib.Core.List.{[], ◌∷◌}
use lib.Dec.{eqb}
use borrow.Author.Tests.{eqb-true, eqb-false}
use Rattle.arena.specs.Nodes.{node, Nodes, kind_at, type_at, arg_at, elem_at, positions}
use Rattle.arena.specs.Values.{Ty, tbool, topt, Value, bool, bits, vnone, vsome, vset, vrec, code, compare_t, compare_v, eq_v, as_bool, value_or}
use Rattle.arena.specs.Meaning.{Interp, none_get, data_means, term, mean_node, meaning}
use Rattle.arena.proofs.Bools.{and_l, and_r}
use Rattle.arena.proofs.Chain.{WF}
use Rattle.arena.proofs.View.{is_get}
use Rattle.arena.proofs.Whole.{elem_type}
use Rattle.arena.proofs.Canon.{lit_kind}
use Rattle.arena.proofs.Known.{Lit, B, none_means, some_node, ite_node, zero_i, lit_opt}
use Rattle.factory.specs.Makers.{none_of}
use Rattle.factory.specs.SetSteps.{option_get}
use Rattle.factory.specs.Helpers.{is_none_lit, is_some_lit, eq_none, is_none_ite, is_none, is_some}
use Rattle.factory.specs.Meanings.{means55, is_none_v, means60, means61}
use Rattle.factory.proofs.Law.{Typed, tm_bool, opt_kind, opt_elem, typed_ext, mean_old, lit_old, Law, stay, applied, reads, onward, law_if}
use Rattle.factory.proofs.Made.{says, none_law}
use Rattle.factory.proofs.Logic.{holds, not_law}
use Rattle.factory.proofs.Equal.{eq_law, some_inner}

-- ---- option_get; of a literal None it is no literal

pub get_law : {a : Nodes} → WF a → {y : Ty} (t : ℕ) → Typed a (topt y) t
    → Law a (Lit a t × (kind_at a t ≡ 18 → ⊥)) y (λ I. means55 I y (meaning I a t)) (option_get a t)
unfolding option_get mean_node term data_means positions value_or
get_law {a} w {y} t m =
    law_if (eqb (kind_at a t) 19) _ _
    (λ e. let k = eqb-true (kind_at a t) 19 e in
    stay (arg_at a t 0) w (some_inner w t k m) (λ I G. rw ((some_node w t k).means I)) (λ l. (some_node w t k).lits l.0))
    (λ e. reads (applied (node 155 (elem_at a t) 0 (t ∷ [])) w (omega arith) (is_get (type_at a t) t (opt_kind w m) (record { isterm = m.isterm; typed = refl })) (opt_elem w m)
    (λ l. no e l (lit_opt w (type_at a t) t (record { isterm = m.isterm; typed = refl }) l.0 (opt_kind w m)))) (λ l. l)
    (λ I G. ap (λ (z : Ty). value_or (none_get I z) (meaning I a t)) (opt_elem w m)))
  where
    no : eqb (kind_at a t) 19 ≡ false → Lit a t × (kind_at a t ≡ 18 → ⊥) → (kind_at a t ≡ 18) ⊎ (kind_at a t ≡ 19) → ⊥
    no e l (inl q) = l.1 q
    no e l (inr q) = eqb-false (kind_at a t) 19 e q

-- ---- is_none

none_eq : (v : Value) → eq_v v vnone ≡ is_none_v v
unfolding is_none_v eq_v compare_v compare_t code
none_eq (bool b) = refl
none_eq (bits n) = refl
none_eq vnone = refl
none_eq (vsome v) = refl
none_eq (vset s) = refl
none_eq (vrec f) = refl

-- a choice is none where the arm chosen is
none_pick : (g : Bool) (v u : Value) {x y : Bool} → is_none_v v ≡ x → is_none_v u ≡ y → bool (cond g x y) ≡ bool (is_none_v (cond g v u))
none_pick true v u e f = ap bool (sym e)
none_pick false v u e f = ap bool (sym f)

pick_one : (g : Bool) → bool g ≡ bool (cond g true false)
pick_one true = refl
pick_one false = refl

pick_other : (g : Bool) → bool (not g) ≡ bool (cond g false true)
pick_other true = refl
pick_other false = refl

pick_neither : (g : Bool) → bool false ≡ bool (cond g false false)
pick_neither true = refl
pick_neither false = refl

module _ {a : Nodes} (w : WF a) where
  some_not_none : (x : ℕ) → is_some_lit a x ≡ true → (I : Interp) → is_none_v (meaning I a x) ≡ false
  unfolding is_none_v
  some_not_none x e I = rw ((some_node w x (eqb-true (kind_at a x) 19 e)).means I)

  none_is_none : (x : ℕ) → is_none_lit a x ≡ true → (I : Interp) → is_none_v (meaning I a x) ≡ true
  unfolding is_none_v
  none_is_none x e I = rw (none_means I w x (eqb-true (kind_at a x) 18 e))

  module _ {y : Ty} (t : ℕ) (m : Typed a (topt y) t) where
    eq_none_law : Law a (Lit a t) tbool (λ I. means60 (meaning I a t)) (eq_none a t)
    unfolding eq_none
    eq_none_law =
        let l = none_law w {L = Unit {0}} (elem_at a t) (elem_type w (type_at a t) (inl (opt_kind w m))) (opt_elem w m) in
        let o = none_of a (elem_at a t) in
        onward l.ext
        (reads (eq_law l.wf t o.at (typed_ext w l.ext m) l.typed) (λ z. (lit_old l.ext m z, l.lit tt))
        (λ I G. ap bool (ap₂ eq_v (mean_old l.ext m I) (l.means I G) ∙ none_eq (meaning I a t))))

    is_none_ite_law : (g x z : ℕ) → Typed a tbool g → ((I : Interp) → meaning I a t ≡ cond (B I a g) (meaning I a x) (meaning I a z)) → (Lit a t → ⊥)
        → Law a (Lit a t) tbool (λ I. means60 (meaning I a t)) (is_none_ite a t g x z)
    unfolding is_none_ite
    is_none_ite_law g x z k h n =
        law_if (is_some_lit a x && is_some_lit a z) _ _
        (λ e. says w false (λ I G. pick_neither (B I a g) ∙ arms I (some_not_none x (and_l _ _ e) I) (some_not_none z (and_r (is_some_lit a x) _ e) I)))
        (λ e1. law_if (is_some_lit a x && is_none_lit a z) _ _
        (λ e. reads (not_law w g k) (λ l. absurd (n l)) (λ I G. pick_other (B I a g) ∙ arms I (some_not_none x (and_l _ _ e) I) (none_is_none z (and_r (is_some_lit a x) _ e) I)))
        (λ e2. law_if (is_none_lit a x && is_some_lit a z) _ _
        (λ e. holds w g k (λ I G. pick_one (B I a g) ∙ arms I (none_is_none x (and_l _ _ e) I) (some_not_none z (and_r (is_none_lit a x) _ e) I)) (λ l. absurd (n l)))
        (λ e3. eq_none_law)))
      where
        arms : (I : Interp) {p q : Bool} → is_none_v (meaning I a x) ≡ p → is_none_v (meaning I a z) ≡ q → bool (cond (B I a g) p q) ≡ means60 (meaning I a t)
        arms I e f = none_pick (B I a g) (meaning I a x) (meaning I a z) e f ∙ ap means60 (sym (h I))

    pub is_none_law : Law a (Lit a t) tbool (λ I. means60 (meaning I a t)) (is_none a t)
    unfolding is_none
    is_none_law =
        law_if (is_none_lit a t) _ _
        (λ e. says w true (λ I G. ap bool (sym (none_is_none t e I))))
        (λ e1. law_if (is_some_lit a t) _ _
        (λ e. says w false (λ I G. ap bool (sym (some_not_none t e I))))
        (λ e2. law_if (eqb (kind_at a t) 125) _ _
        (λ e. let k = eqb-true (kind_at a t) 125 e in let n = ite_node w t k in
        is_none_ite_law (arg_at a t 0) (arg_at a t 1) (arg_at a t 2) (tm_bool w n.guard) n.means
        (λ l. let j = lit_kind zero_i w t (record { isterm = m.isterm; islit = l }) in omega arith))
        (λ e3. eq_none_law)))

    pub is_some_law : Law a (Lit a t) tbool (λ I. means61 (meaning I a t)) (is_some a t)
    unfolding is_some as_bool
    is_some_law =
        let l = is_none_law in
        onward l.ext (reads (not_law l.wf (is_none a t).at l.typed) l.lit (λ I G. rw (l.means I G)))
