-- The laws of 20 not, 21 and, 22 or, 23 implies.
use mathlib.Core.Path.{◌≡◌, refl, sym, ap, ◌∙◌}
use Prim.Native.Nat.{ℕ}
use native.Mathlib.Omega.{arith}
use mathlib.Core.Bool.{Bool, true, false, not, cond, ◌&&◌, ◌||◌, not-not, and_self, and-true, and-false, and-not_self, or_self, or-true, or-false, or-not_self}
use mathlib.Core.Logic.{◌⊎◌, inl, inr}
use mathlib.Core.List.{[], ◌∷◌}
use lib.Dec.{eqb}
use borrow.Author.Tests.{eqb-true}
use Rattle.arena.specs.Nodes.{F, T, node, Nodes, kind_at, arg_at, positions, out}
use Rattle.arena.specs.Values.{tbool, Value, bool, as_bool}
use Rattle.arena.specs.Meaning.{Interp, Good, core_means, term, mean_node, meaning}
use Rattle.arena.proofs.Bools.{t≢f, or_cases, or_false_l, branch}
use Rattle.arena.proofs.Chain.{WF}
use Rattle.arena.proofs.View.{is_not, is_and, is_or}
use Rattle.arena.proofs.Types.{ty_bool}
use Rattle.arena.proofs.Sound.{bool_at_lem}
use Rattle.arena.proofs.Known.{Lit, B, not_node, no_lit}
use Rattle.factory.specs.Makers.{bool_at, app}
use Rattle.factory.specs.Core.{not_t, opposites, junction, and_t, or_t, implies}
use Rattle.factory.specs.Meanings.{means20, means21, means22, means23}
use Rattle.factory.proofs.Law.{Typed, bool_tm, tm_bool, typed_ext, mean_old, lit_old, Law, stay, applied, reads, onward, law_if}
use Rattle.factory.proofs.Made.{bool-at-means, says}

-- a Bool term as the answer
pub holds : {a : Nodes} {L : Type 0} {v : Interp → Value} (w : WF a) (t : ℕ) → Typed a tbool t → ((I : Interp) → Good I → bool (B I a t) ≡ v I) → (L → Lit a t)
    → Law a L tbool v (out a t)
holds w t m h l = stay t w m (λ I G. sym (bool_at_lem I G w t (bool_tm w m)) ∙ h I G) l

pub not_law : {a : Nodes} → WF a → (t : ℕ) → Typed a tbool t → Law a (Lit a t) tbool (λ I. means20 (meaning I a t)) (not_t a t)
unfolding not_t as_bool mean_node term core_means positions
not_law {a} w t m =
    law_if (eqb t T) _ _
    (λ e. says w false (λ I G. rw (eqb-true t T e, bool-at-means w I true)))
    (λ e1. law_if (eqb t F) _ _
    (λ e. says w true (λ I G. rw (eqb-true t F e, bool-at-means w I false)))
    (λ e2. law_if (eqb (kind_at a t) 120) _ _
    (λ e. let n = not_node w t (eqb-true (kind_at a t) 120 e) in
    holds w (arg_at a t 0) (tm_bool w n.under) (λ I G. ap bool (sym (not-not (B I a (arg_at a t 0))) ∙ ap not (sym (ap as_bool (n.means I))))) (no_lit w t (bool_tm w m) e1 e2))
    (λ e3. applied (node 120 0 0 (t ∷ [])) w (omega arith) (is_not t (bool_tm w m)) (ty_bool w.base) (no_lit w t (bool_tm w m) e1 e2))))

-- ---- and, or: a connective f with the unit b

opposed : {a : Nodes} → WF a → (t u : ℕ) → opposites a t u ≡ true → (I : Interp) → B I a u ≡ not (B I a t)
unfolding opposites as_bool
opposed {a} w t u e I =
    branch (eqb (kind_at a u) 120) _ _ e
    (λ k h. let n = not_node w u (eqb-true (kind_at a u) 120 k) in rw (n.means I, eqb-true t (arg_at a u 0) h))
    (λ k h. branch (eqb (kind_at a t) 120) _ false h
    (λ j g. let n = not_node w t (eqb-true (kind_at a t) 120 j) in
    rw (n.means I, not-not (B I a (arg_at a t 0))) (ap (λ (x : ℕ). B I a x) (sym (eqb-true (arg_at a t 0) u g))))
    (λ j g. t≢f (sym g)))

record Connective (b : Bool) (f : Bool → Bool → Bool) : Type 0 where
  idem : (x : Bool) → f x x ≡ x
  unit_l : (x : Bool) → f b x ≡ x
  unit_r : (x : Bool) → f x b ≡ x
  zero_l : (x : Bool) → f (not b) x ≡ not b
  zero_r : (x : Bool) → f x (not b) ≡ not b
  excluded : (x : Bool) → f x (not x) ≡ not b

neither : {X : Type 0} {a : Nodes} → WF a → (b : Bool) (t : ℕ) → Typed a tbool t → eqb t (bool_at b) ≡ false → eqb t (bool_at (not b)) ≡ false → Lit a t → X
neither w true t m e f l = no_lit w t (bool_tm w m) e f l
neither w false t m e f l = no_lit w t (bool_tm w m) f e l

module _ {b : Bool} {f : Bool → Bool → Bool} (C : Connective b f) {a : Nodes} (w : WF a) (t u : ℕ) (m : Typed a tbool t) (n : Typed a tbool u) where
  is_bool_lem : (I : Interp) (x : ℕ) (c : Bool) → eqb x (bool_at c) ≡ true → B I a x ≡ c
  unfolding as_bool
  is_bool_lem I x c e = rw (eqb-true x (bool_at c) e, bool-at-means w I c)

  first : (I : Interp) → (eqb t u ≡ true) ⊎ (eqb u (bool_at b) ≡ true) → B I a t ≡ f (B I a t) (B I a u)
  first I (inl e) = rw (← eqb-true t u e) (sym (C.idem (B I a t)))
  first I (inr e) = rw (is_bool_lem I u b e) (sym (C.unit_r (B I a t)))

  nothing : (I : Interp) → (eqb t (bool_at (not b)) ≡ true) ⊎ ((eqb u (bool_at (not b)) || opposites a t u) ≡ true) → not b ≡ f (B I a t) (B I a u)
  nothing I (inl e) = rw (is_bool_lem I t (not b) e) (sym (C.zero_l (B I a u)))
  nothing I (inr e) = go (or_cases (eqb u (bool_at (not b))) (opposites a t u) e)
    where
      go : (eqb u (bool_at (not b)) ≡ true) ⊎ (opposites a t u ≡ true) → not b ≡ f (B I a t) (B I a u)
      go (inl h) = rw (is_bool_lem I u (not b) h) (sym (C.zero_r (B I a t)))
      go (inr h) = rw (opposed w t u h I) (sym (C.excluded (B I a t)))

  connective_law : (op : ℕ) → ((Lit a t × Lit a u → ⊥) → Law a (Lit a t × Lit a u) tbool (λ I. bool (f (B I a t) (B I a u))) (app a op 0 (t ∷ u ∷ [])))
      → Law a (Lit a t × Lit a u) tbool (λ I. bool (f (B I a t) (B I a u)))
      (cond (eqb t u || eqb u (bool_at b)) (out a t)
      (cond (eqb t (bool_at b)) (out a u)
      (cond (eqb t (bool_at (not b)) || (eqb u (bool_at (not b)) || opposites a t u)) (out a (bool_at (not b))) (app a op 0 (t ∷ u ∷ [])))))
  connective_law op k =
      law_if (eqb t u || eqb u (bool_at b)) _ _
      (λ e. holds w t m (λ I G. ap bool (first I (or_cases _ _ e))) (λ l. l.0))
      (λ e1. law_if (eqb t (bool_at b)) _ _
      (λ e. holds w u n (λ I G. ap bool (rw (is_bool_lem I t b e) (sym (C.unit_l (B I a u))))) (λ l. l.1))
      (λ e2. law_if (eqb t (bool_at (not b)) || (eqb u (bool_at (not b)) || opposites a t u)) _ _
      (λ e. says w (not b) (λ I G. ap bool (nothing I (or_cases _ _ e))))
      (λ e3. k (λ l. neither w b t m e2 (or_false_l _ _ e3) l.0))))

pub and_law : {a : Nodes} → WF a → (t u : ℕ) → Typed a tbool t → Typed a tbool u → Law a (Lit a t × Lit a u) tbool (λ I. means21 (meaning I a t) (meaning I a u)) (and_t a t u)
unfolding and_t junction mean_node term core_means positions
and_law {a} w t u m n =
    connective_law and w t u m n 21 (λ l. applied (node 121 0 0 (t ∷ u ∷ [])) w (omega arith) (is_and t u (bool_tm w m) (bool_tm w n)) (ty_bool w.base) l)
  where
    and : Connective true ◌&&◌
    and = record { idem = and_self; unit_l = λ x. refl; unit_r = and-true; zero_l = λ x. refl; zero_r = and-false; excluded = and-not_self }

pub or_law : {a : Nodes} → WF a → (t u : ℕ) → Typed a tbool t → Typed a tbool u → Law a (Lit a t × Lit a u) tbool (λ I. means22 (meaning I a t) (meaning I a u)) (or_t a t u)
unfolding or_t junction mean_node term core_means positions
or_law {a} w t u m n =
    connective_law or w t u m n 22 (λ l. applied (node 122 0 0 (t ∷ u ∷ [])) w (omega arith) (is_or t u (bool_tm w m) (bool_tm w n)) (ty_bool w.base) l)
  where
    or : Connective false ◌||◌
    or = record { idem = or_self; unit_l = λ x. refl; unit_r = or-false; zero_l = λ x. refl; zero_r = or-true; excluded = or-not_self }

pub implies_law : {a : Nodes} → WF a → (t u : ℕ) → Typed a tbool t → Typed a tbool u → Law a (Lit a t × Lit a u) tbool (λ I. means23 (meaning I a t) (meaning I a u)) (implies a t u)
unfolding implies as_bool
implies_law {a} w t u m n =
    let l = not_law w t m in
    onward l.ext
    (reads (or_law l.wf (not_t a t).at u l.typed (typed_ext w l.ext n))
    (λ z. (l.lit z.0, lit_old l.ext n z.1))
    (λ I G. rw (l.means I G, mean_old l.ext n I)))
