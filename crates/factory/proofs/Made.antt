-- The laws of the makers of one node: 10 bool literal, 11 bitvec literal, 12 None, 13 Some, 16 variable; and of 26, uninterpreted application.
use mathlib.Core.Path.{◌≡◌, refl, sym, ap, ◌∙◌, subst}
use Prim.Native.Nat.{ℕ, ◌^◌, ◌≤◌, ◌<◌}
use native.Mathlib.Omega.{arith}
use mathlib.Core.Bool.{Bool, true, false}
use mathlib.Core.List.{[], ◌∷◌}
use lib.ListN.{get_or}
use Rattle.arena.specs.Lists.{all}
use Rattle.arena.specs.Nodes.{Node, node, Nodes, kind_at, type_at, par_at, arg_at, positions, put, Out, out}
use Rattle.arena.specs.Walks.{ruled, lit_rule}
use Rattle.arena.specs.WellFormed.{small, is_type, is_term}
use Rattle.arena.specs.Values.{Ty, tbool, topt, Value, bool}
use Rattle.arena.specs.Meaning.{ty_of, ty_at, Interp, Good, maker_means, core_means, term, mean_node, meaning}
use Rattle.arena.proofs.Ext.{Ext, ty_ext}
use Rattle.arena.proofs.Chain.{WF, type-below}
use Rattle.arena.proofs.View.{Tm, Is, is_opt_lem, is_lit_lem, is_none, is_some, is_var, is_uf}
use Rattle.arena.proofs.Types.{ty_opt}
use Rattle.arena.proofs.Base.{tm_ext, false_tm, true_tm, false_means, true_means, false_lit, true_lit}
use Rattle.arena.proofs.Known.{Lit}
use Rattle.arena.proofs.Built.{type_added}
use Rattle.factory.specs.Makers.{bool_at, option_type, bitvec_lit, variable, none_of, some_of}
use Rattle.factory.specs.Core.{uninterpreted}
use Rattle.factory.specs.Meanings.{means10, means11, means12, means13, means16, means26}
use Rattle.factory.proofs.Law.{Typed, typed-type, tm_bool, mean_old, lit_old, Law, stay, added, applied, reads, onward}

-- ---- 10 bool literal: one of the two that stand in every arena

module _ {a : Nodes} (w : WF a) where
  pub bool-at_tm : (b : Bool) → Tm a 0 (bool_at b)
  bool-at_tm true = true_tm w
  bool-at_tm false = false_tm w

  pub bool-at-means : (I : Interp) (b : Bool) → meaning I a (bool_at b) ≡ bool b
  bool-at-means I true = true_means I w
  bool-at-means I false = false_means I w

  pub bool-at_lit : (b : Bool) → Lit a (bool_at b)
  bool-at_lit true = true_lit w
  bool-at_lit false = false_lit w

  -- a literal as the answer
  pub says : {L : Type 0} {v : Interp → Value} (b : Bool) → ((I : Interp) → Good I → bool b ≡ v I) → Law a L tbool v (out a (bool_at b))
  says b h = stay (bool_at b) w (tm_bool w (bool-at_tm b)) (λ I G. bool-at-means I b ∙ h I G) (λ l. bool-at_lit b)

  pub bool_law : {L : Type 0} (b : Bool) → Law a L tbool (λ I. means10 b) (out a (bool_at b))
  bool_law b = says b (λ I G. refl)

  -- ---- 11 bitvec literal, 16 variable, 26 uninterpreted application: one node of a type that stands

  pub bitvec_law : {L : Type 0} {y : Ty} (t n : ℕ) → ty_of a t ≡ y → kind_at a t ≡ 2 → n < 2 ^ par_at a t → Law a L y (λ I. means11 n) (bitvec_lit a t n)
  unfolding mean_node term maker_means ruled lit_rule
  bitvec_law t n e h l = added (node 17 t n []) w (omega arith) (is_lit_lem t n h l) e (λ x. refl)

  pub variable_law : (id t : ℕ) → small id ≡ true → is_type a t ≡ true → Law a ⊥ (ty_of a t) (λ I. means16 I id (ty_of a t)) (variable a id t)
  unfolding mean_node term maker_means
  variable_law id t s h = applied (node 22 t id []) w (omega arith) (is_var t id h s) refl (λ x. x)

  pub uninterpreted_law : (id t x : ℕ) → small id ≡ true → is_type a t ≡ true → is_term a x ≡ true
      → Law a ⊥ (ty_of a t) (λ I. means26 I id (ty_at a x) (ty_of a t) (meaning I a x)) (uninterpreted a id t x)
  unfolding uninterpreted mean_node term core_means positions
  uninterpreted_law id t x s h m = applied (node 126 t id (x ∷ [])) w (omega arith) (is_uf t id x h s m) refl (λ x. x)

  -- ---- 12 None, 13 Some: their Option type is found or added first

  -- an Option or a Set of the type at e, found or added
  pub record Holder (k e : ℕ) (o : Out) : Type 0 where
    pub ext : Ext a o.arena
    pub wf : WF o.arena
    pub kind : kind_at o.arena o.at ≡ k
    pub elem : arg_at o.arena o.at 0 ≡ e
    pub inner : ty_of o.arena (arg_at o.arena o.at 0) ≡ ty_of a e

  pub holder : (k e : ℕ) → k ≤ 15 → is_type a e ≡ true → Is a (node k 0 0 (e ∷ [])) → Holder k e (put a (node k 0 0 (e ∷ [])))
  holder k e l h i =
      let p = type_added (node k 0 0 (e ∷ [])) w l i in
      let x = ap (λ (m : Node). get_or m.mem 0 0) p.there in
      record {
        ext = p.ext;
        wf = p.wf;
        kind = ap (λ (m : Node). m.kind) p.there;
        elem = x;
        inner = ap (ty_of (put a (node k 0 0 (e ∷ []))).arena) x ∙ ty_ext p.ext e (type-below a e h);
      }

  option-type : (e : ℕ) (p : Holder 3 e (option_type a e)) → ty_of (option_type a e).arena (option_type a e).at ≡ topt (ty_of a e)
  option-type e p = ty_opt p.wf.chain (option_type a e).at p.kind ∙ ap topt p.inner

  pub none_law : {L : Type 0} {y : Ty} (e : ℕ) → is_type a e ≡ true → ty_of a e ≡ y → Law a L (topt y) (λ I. means12) (none_of a e)
  unfolding none_of mean_node term maker_means ruled lit_rule
  none_law e h q =
      let p = holder 3 e (omega arith) h (is_opt_lem e h) in
      let s = (option_type a e).at in
      onward p.ext (added (node 18 s 0 []) p.wf (omega arith) (is_none s p.kind) (option-type e p ∙ ap topt q) (λ x. refl))

  pub some_law : {y : Ty} (t : ℕ) → Typed a y t → Law a (Lit a t) (topt y) (λ I. means13 (meaning I a t)) (some_of a t)
  unfolding some_of mean_node term maker_means positions ruled lit_rule all
  some_law t m =
      let p = holder 3 (type_at a t) (omega arith) (typed-type w m) (is_opt_lem (type_at a t) (typed-type w m)) in
      let b = (option_type a (type_at a t)).arena in
      let s = (option_type a (type_at a t)).at in
      let k : Tm b (arg_at b s 0) t = subst (λ (z : ℕ). Tm b z t) (sym p.elem) (tm_ext p.ext (record { isterm = m.isterm; typed = refl })) in
      onward p.ext
      (reads (added (node 19 s 0 (t ∷ [])) p.wf (omega arith) (is_some s t p.kind k) (option-type (type_at a t) p ∙ ap topt m.typed) (λ x. rw x))
      (lit_old p.ext m) (λ I G. ap means13 (mean_old p.ext m I)))
