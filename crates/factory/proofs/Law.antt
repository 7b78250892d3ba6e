-- What a step that builds a term promises, in one shape for every operation, and the tools that compose steps.
use mathlib.Core.Path.{◌≡◌, refl, sym, ap, ◌∙◌, subst}
use Prim.Native.Nat.{ℕ, ◌≤◌}
use mathlib.Core.Bool.{Bool, true, false, cond}
use Rattle.arena.specs.Nodes.{Node, Nodes, kind_at, type_at, elem_at, width_at, put, Out, out}
use Rattle.arena.specs.Walks.{ruled, lit_rule, is_lit}
use Rattle.arena.specs.WellFormed.{is_type, is_term}
use Rattle.arena.specs.Values.{Ty, tbool, tbv, topt, tset, Value}
use Rattle.arena.specs.Meaning.{ty_of, ty_at, Interp, Good, mean_node, meaning}
pub use Rattle.factory.specs.Fit.{Typed}
use Rattle.arena.proofs.Bools.{by_cases}
use Rattle.arena.proofs.Ext.{Ext, ext_same, ext_trans, ty_ext, meaning_ext, walked_ext}
use Rattle.arena.proofs.Chain.{WF, type-below, term-below, term_ext, term_type, placed-term, ty_at_ext}
use Rattle.arena.proofs.View.{Tm, Is}
use Rattle.arena.proofs.Types.{ty_bv, ty_opt, ty_set, ty_bool}
use Rattle.arena.proofs.Base.{bool-type}
use Rattle.arena.proofs.Whole.{good_is}
use Rattle.arena.proofs.TypeCanon.{ty_kind, ty_kind_lem, ty_canon}
use Rattle.arena.proofs.Known.{Lit}
use Rattle.arena.proofs.Built.{added as node-added}

-- ---- terms by the structure of their type

pub typed_self : {a : Nodes} (x : ℕ) → is_term a x ≡ true → Typed a (ty_at a x) x
typed_self x h = record { isterm = h; typed = refl }

pub tm_typed : {a : Nodes} {t x : ℕ} {y : Ty} → ty_of a t ≡ y → Tm a t x → Typed a y x
tm_typed {a} e m = record { isterm = m.isterm; typed = ap (ty_of a) m.typed ∙ e }

-- by position: types of one structure are one position
module _ {a : Nodes} (w : WF a) where
  pub typed-type : {y : Ty} {x : ℕ} → Typed a y x → is_type a (type_at a x) ≡ true
  typed-type {x = x} m = term_type w.chain x m.isterm

  pub typed_tm : {t x : ℕ} → is_type a t ≡ true → Typed a (ty_of a t) x → Tm a t x
  typed_tm {t} {x} h m = record { isterm = m.isterm; typed = ty_canon w (type_at a x) t (typed-type m) h m.typed }

  pub bool_tm : {x : ℕ} → Typed a tbool x → Tm a 0 x
  bool_tm {x} m = typed_tm (bool-type w) (record { isterm = m.isterm; typed = m.typed ∙ sym (ty_bool w.base) })

  pub tm_bool : {x : ℕ} → Tm a 0 x → Typed a tbool x
  tm_bool m = tm_typed (ty_bool w.base) m

  -- two terms of one type
  pub same_tm : {y : Ty} {x z : ℕ} → Typed a y x → Typed a y z → Tm a (type_at a x) z
  same_tm m n = typed_tm (typed-type m) (record { isterm = n.isterm; typed = n.typed ∙ sym m.typed })

  typed-kind : {y : Ty} {x : ℕ} → Typed a y x → kind_at a (type_at a x) ≡ ty_kind y
  typed-kind {x = x} m = sym (ty_kind_lem w (type_at a x) (typed-type m)) ∙ ap ty_kind m.typed

  -- an option, a set, a bitvector: the kind of its type, and what it is made of
  pub opt_kind : {y : Ty} {x : ℕ} → Typed a (topt y) x → kind_at a (type_at a x) ≡ 3
  unfolding ty_kind
  opt_kind m = typed-kind m

  pub opt_elem : {y : Ty} {x : ℕ} → Typed a (topt y) x → ty_of a (elem_at a x) ≡ y
  opt_elem {y} {x} m =
      let e : topt (ty_of a (elem_at a x)) ≡ topt y = sym (ty_opt w.chain (type_at a x) (opt_kind m)) ∙ m.typed in
      cc

  pub set_kind : {y : Ty} {x : ℕ} → Typed a (tset y) x → kind_at a (type_at a x) ≡ 4
  unfolding ty_kind
  set_kind m = typed-kind m

  pub set_elem : {y : Ty} {x : ℕ} → Typed a (tset y) x → ty_of a (elem_at a x) ≡ y
  set_elem {y} {x} m =
      let e : tset (ty_of a (elem_at a x)) ≡ tset y = sym (ty_set w.chain (type_at a x) (set_kind m)) ∙ m.typed in
      cc

  pub bv_kind : {n x : ℕ} → Typed a (tbv n) x → kind_at a (type_at a x) ≡ 2
  unfolding ty_kind
  bv_kind m = typed-kind m

  pub bv_width : {n x : ℕ} → Typed a (tbv n) x → width_at a x ≡ n
  bv_width {n} {x} m =
      let e : tbv (width_at a x) ≡ tbv n = sym (ty_bv w.chain (type_at a x) (bv_kind m)) ∙ m.typed in
      cc

  -- and back
  pub opt_typed : (x : ℕ) → is_term a x ≡ true → kind_at a (type_at a x) ≡ 3 → Typed a (topt (ty_of a (elem_at a x))) x
  opt_typed x h k = record { isterm = h; typed = ty_opt w.chain (type_at a x) k }

  pub set_typed : (x : ℕ) → is_term a x ≡ true → kind_at a (type_at a x) ≡ 4 → Typed a (tset (ty_of a (elem_at a x))) x
  set_typed x h k = record { isterm = h; typed = ty_set w.chain (type_at a x) k }

  pub bv_typed : (x : ℕ) → is_term a x ≡ true → kind_at a (type_at a x) ≡ 2 → Typed a (tbv (width_at a x)) x
  bv_typed x h k = record { isterm = h; typed = ty_bv w.chain (type_at a x) k }

-- in a longer arena
module _ {a b : Nodes} (w : WF a) (e : Ext a b) {y : Ty} {x : ℕ} (m : Typed a y x) where
  pub typed_ext : Typed b y x
  typed_ext = record { isterm = term_ext e x m.isterm; typed = ty_at_ext w.chain e x m.isterm ∙ m.typed }

module _ {a b : Nodes} (e : Ext a b) {y : Ty} {x : ℕ} (m : Typed a y x) where
  pub mean_old : (I : Interp) → meaning I b x ≡ meaning I a x
  mean_old I = meaning_ext I e x (term-below a x m.isterm)

  pub lit_old : Lit a x → Lit b x
  lit_old l = walked_ext lit_rule e x (term-below a x m.isterm) ∙ l

-- ---- the law of a step

-- the arena only grows and stays well formed; the answer is a term of the type y that means v under every good interpretation, and it is a
-- literal where L holds: where the operands are
pub record Law (a : Nodes) (L : Type 0) (y : Ty) (v : Interp → Value) (o : Out) : Type 0 where
  pub ext : Ext a o.arena
  pub wf : WF o.arena
  pub typed : Typed o.arena y o.at
  pub means : (I : Interp) → Good I → meaning I o.arena o.at ≡ v I
  pub lit : L → is_lit o.arena o.at ≡ true

-- an operand as the answer
pub stay : {a : Nodes} {L : Type 0} {y : Ty} {v : Interp → Value} (p : ℕ) → WF a → Typed a y p → ((I : Interp) → Good I → meaning I a p ≡ v I)
    → (L → is_lit a p ≡ true) → Law a L y v (out a p)
stay p w m h l = record { ext = ext_same; wf = w; typed = m; means = h; lit = l }

-- a node found or added
pub added : {a : Nodes} {L : Type 0} {y : Ty} (n : Node) → WF a → 16 ≤ n.kind → Is a n → ty_of a n.type ≡ y → (L → ruled lit_rule a (is_lit a) n ≡ true)
    → Law a L y (λ I. mean_node I a (meaning I a) n) (put a n)
added {a} n w h i e l =
    let p = node-added n w h i l in
    let t = (placed-term a n h (good_is w i)).0 in
    record {
      ext = p.ext;
      wf = p.wf;
      typed = tm_typed (ty_ext p.ext n.type (type-below a n.type t) ∙ e) p.tm;
      means = p.means;
      lit = p.lit;
    }

-- an application found or added, which is no literal: so nor are all the operands
pub applied : {a : Nodes} {L : Type 0} {y : Ty} (n : Node) → WF a → 16 ≤ n.kind → Is a n → ty_of a n.type ≡ y → (L → ⊥)
    → Law a L y (λ I. mean_node I a (meaning I a) n) (put a n)
applied n w h i e l = added n w h i e (λ x. absurd (l x))

-- the same with the meaning stated another way, or from other literals
pub reads : {a : Nodes} {L K : Type 0} {y : Ty} {u v : Interp → Value} {o : Out} → Law a L y u o → (K → L) → ((I : Interp) → Good I → u I ≡ v I) → Law a K y v o
reads l f h = record { ext = l.ext; wf = l.wf; typed = l.typed; means = λ I G. l.means I G ∙ h I G; lit = λ x. l.lit (f x) }

pub retyped : {a : Nodes} {L : Type 0} {y z : Ty} {v : Interp → Value} {o : Out} → y ≡ z → Law a L y v o → Law a L z v o
retyped {a} {L} {v = v} {o = o} e l = subst (λ (x : Ty). Law a L x v o) e l

-- a step over the arena that earlier steps left
pub onward : {a b : Nodes} {L : Type 0} {y : Ty} {v : Interp → Value} {o : Out} → Ext a b → Law b L y v o → Law a L y v o
onward e l = record { ext = ext_trans e l.ext; wf = l.wf; typed = l.typed; means = l.means; lit = l.lit }

pub law_if : {a : Nodes} {L : Type 0} {y : Ty} {v : Interp → Value} (b : Bool) (p q : Out) → (b ≡ true → Law a L y v p) → (b ≡ false → Law a L y v q) → Law a L y v (cond b p q)
law_if {a} {L} {y} {v} b p q f g = by_cases (Law a L y v) b p q f g
