-- The law of 25 ite.
use mathlib.Core.Path.{◌≡◌, refl, sym, ap, ap₂, ◌∙◌}
use Prim.Native.Nat.{ℕ}
use native.Mathlib.Omega.{arith}
use mathlib.Core.Bool.{Bool, true, false, not, cond, ◌&&◌, ◌||◌}
use mathlib.Core.Logic.{◌⊎◌, inl, inr}
use mathlib.Core.List.{[], ◌∷◌}
use lib.Dec.{eqb}
use borrow.Author.Tests.{eqb-true}
use Rattle.arena.specs.Nodes.{F, T, node, Nodes, kind_at, type_at, arg_at, positions}
use Rattle.arena.specs.Walks.{is_lit}
use Rattle.arena.specs.Values.{Ty, tbool, Value, bool, vsome, as_bool}
use Rattle.arena.specs.Meaning.{Interp, core_means, term, mean_node, meaning}
use Rattle.arena.proofs.Bools.{and_l, and_r, or_cases, or_false_l}
use Rattle.arena.proofs.Chain.{WF}
use Rattle.arena.proofs.View.{is_ite}
use Rattle.arena.proofs.Sound.{bool_at_lem}
use Rattle.arena.proofs.Known.{Lit, B, some_node, lit_bool, no_lit}
use Rattle.factory.specs.Makers.{bool_at}
use Rattle.factory.specs.Core.{ite_simplify, ite_of_somes, ite_t}
use Rattle.factory.specs.Meanings.{means25}
use Rattle.factory.proofs.Law.{Typed, tm_typed, bool_tm, same_tm, Law, stay, applied, reads, retyped, onward, law_if}
use Rattle.factory.proofs.Made.{bool-at-means, some_law}
use Rattle.factory.proofs.Logic.{holds, not_law, and_law, or_law}
use Rattle.factory.proofs.Equal.{bool-type_of, as_bool_lem, some_type, some_inner}

-- ---- choosing among values

pick_same : (b : Bool) (v : Value) → v ≡ cond b v v
pick_same true v = refl
pick_same false v = refl

pick_some : (g : Bool) (x y : Value) → vsome (cond g x y) ≡ cond g (vsome x) (vsome y)
pick_some true x y = refl
pick_some false x y = refl

-- between true and false, and with one of them: the guard, its negation, and, or
pick_tf : (g : Bool) → bool g ≡ cond g (bool true) (bool false)
pick_tf true = refl
pick_tf false = refl

pick_ft : (g : Bool) → bool (not g) ≡ cond g (bool false) (bool true)
pick_ft true = refl
pick_ft false = refl

pick_and : (g x : Bool) → bool (g && x) ≡ cond g (bool x) (bool false)
pick_and true x = refl
pick_and false x = refl

pick_or : (g x : Bool) → bool (g || x) ≡ cond g (bool true) (bool x)
pick_or true x = refl
pick_or false x = refl

module _ {a : Nodes} (w : WF a) {y : Ty} (g t u : ℕ) (k : Typed a tbool g) (m : Typed a y t) (n : Typed a y u) where
  -- with the arms' values known
  arms : (I : Interp) {v v' : Value} → v ≡ meaning I a t → v' ≡ meaning I a u → cond (B I a g) v v' ≡ means25 (meaning I a g) (meaning I a t) (meaning I a u)
  arms I e f = ap₂ (λ (p q : Value). cond (B I a g) p q) e f

  lit_arm : (I : Interp) (b : Bool) (x : ℕ) → x ≡ bool_at b → bool b ≡ meaning I a x
  lit_arm I b x e = sym (ap (meaning I a) e ∙ bool-at-means w I b)

  first : (I : Interp) → (eqb g T ≡ true) ⊎ (eqb t u ≡ true) → meaning I a t ≡ means25 (meaning I a g) (meaning I a t) (meaning I a u)
  unfolding as_bool
  first I (inl e) = rw (eqb-true g T e, bool-at-means w I true)
  first I (inr e) = rw (← eqb-true t u e) (pick_same (B I a g) (meaning I a t))

  -- the guard is a literal, and so is the arm that it chooses
  abbrev pub Chosen : Type 0
  Chosen = Lit a g × (g ≡ T → Lit a t) × (g ≡ F → Lit a u)

  chosen_first : (eqb g T ≡ true) ⊎ (eqb t u ≡ true) → Chosen → Lit a t
  chosen_first (inl e) l = l.1 (eqb-true g T e)
  chosen_first (inr e) l = go (lit_bool w g (bool_tm w k) l.0)
    where
      go : (g ≡ F) ⊎ (g ≡ T) → Lit a t
      go (inl q) = ap (is_lit a) (eqb-true t u e) ∙ l.2 q
      go (inr q) = l.1 q

  pub simplify_law : Law a Chosen y (λ I. means25 (meaning I a g) (meaning I a t) (meaning I a u)) (ite_simplify a g t u)
  unfolding ite_simplify as_bool mean_node term core_means positions
  simplify_law =
      law_if (eqb g T || eqb t u) _ _
      (λ e. let c = or_cases (eqb g T) (eqb t u) e in stay t w m (λ I G. first I c) (chosen_first c))
      (λ e1. law_if (eqb g F) _ _
      (λ e. stay u w n (λ I G. rw (eqb-true g F e, bool-at-means w I false)) (λ l. l.2 (eqb-true g F e)))
      (λ e2. law_if (eqb t T && eqb u F) _ _
      (λ e. let tT = eqb-true t T (and_l _ _ e) in let uF = eqb-true u F (and_r (eqb t T) _ e) in
      retyped (sym (bool-type_of w true t tT m)) (holds w g k (λ I G. pick_tf (B I a g) ∙ arms I (lit_arm I true t tT) (lit_arm I false u uF)) (λ l. l.0)))
      (λ e3. law_if (eqb t F && eqb u T) _ _
      (λ e. let tF = eqb-true t F (and_l _ _ e) in let uT = eqb-true u T (and_r (eqb t F) _ e) in
      retyped (sym (bool-type_of w false t tF m)) (reads (not_law w g k) (λ l. l.0) (λ I G. pick_ft (B I a g) ∙ arms I (lit_arm I false t tF) (lit_arm I true u uT))))
      (λ e4. law_if (eqb u F) _ _
      (λ e. let uF = eqb-true u F e in let q = bool-type_of w false u uF n in let m' = as_bool_lem w q m in
      retyped (sym q) (reads (and_law w g t k m') (λ l. no e1 e2 l.0) (λ I G. pick_and (B I a g) (B I a t) ∙ arms I (bool_at_lem I G w t (bool_tm w m')) (lit_arm I false u uF))))
      (λ e5. law_if (eqb t T) _ _
      (λ e. let tT = eqb-true t T e in let q = bool-type_of w true t tT m in let n' = as_bool_lem w q n in
      retyped (sym q) (reads (or_law w g u k n') (λ l. no e1 e2 l.0) (λ I G. pick_or (B I a g) (B I a u) ∙ arms I (lit_arm I true t tT) (bool_at_lem I G w u (bool_tm w n')))))
      (λ e6. applied (node 125 (type_at a t) 0 (g ∷ t ∷ u ∷ [])) w (omega arith)
      (is_ite (type_at a t) g t u (bool_tm w k) (record { isterm = m.isterm; typed = refl }) (same_tm w m n)) m.typed
      (λ l. no e1 e2 l.0)))))))
    where
      no : {X : Type 0} → (eqb g T || eqb t u) ≡ false → eqb g F ≡ false → Lit a g → X
      no e1 e2 l = no_lit w g (bool_tm w k) (or_false_l _ _ e1) e2 l

-- a literal where the guard and the arm that it chooses are
pub chosen_law : {a : Nodes} → WF a → {y : Ty} (g t u : ℕ) → Typed a tbool g → Typed a y t → Typed a y u
    → Law a (Lit a g × (g ≡ T → Lit a t) × (g ≡ F → Lit a u)) y (λ I. means25 (meaning I a g) (meaning I a t) (meaning I a u)) (ite_t a g t u)
unfolding ite_t ite_of_somes
chosen_law {a} w {y} g t u k m n =
    law_if (eqb (kind_at a t) 19 && eqb (kind_at a u) 19) _ _
    (λ e.
    let kt = eqb-true (kind_at a t) 19 (and_l _ _ e) in
    let ku = eqb-true (kind_at a u) 19 (and_r (eqb (kind_at a t) 19) _ e) in
    let q = some_type w t kt m in
    let x = some_node w t kt in
    let z = some_node w u ku in
    let l = simplify_law w g (arg_at a t 0) (arg_at a u 0) k (tm_typed refl x.under) (some_inner w u ku (record { isterm = n.isterm; typed = n.typed ∙ q })) in
    let o = ite_simplify a g (arg_at a t 0) (arg_at a u 0) in
    retyped (sym q) (onward l.ext (reads (some_law l.wf o.at l.typed) (λ h. l.lit (h.0, (λ q. x.lits (h.1 q)), (λ q. z.lits (h.2 q))))
    (λ I G. ap vsome (l.means I G) ∙ pick_some (B I a g) _ _ ∙ ap₂ (λ (p q : Value). cond (B I a g) p q) (sym (x.means I)) (sym (z.means I))))))
    (λ e. simplify_law w g t u k m n)

pub ite_law : {a : Nodes} → WF a → {y : Ty} (g t u : ℕ) → Typed a tbool g → Typed a y t → Typed a y u
    → Law a (Lit a g × Lit a t × Lit a u) y (λ I. means25 (meaning I a g) (meaning I a t) (meaning I a u)) (ite_t a g t u)
ite_law w g t u k m n = reads (chosen_law w g t u k m n) (λ l. (l.0, (λ q. l.1), (λ q. l.2))) (λ I G. refl)
