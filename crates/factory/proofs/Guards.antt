-- The laws of 62 if_false, 63 if_true, 64 if_some, 65 any_none, 66 if_all_some.
use mathlib.Core.Path.{◌≡◌, refl, sym, ap, ◌∙◌}
use Prim.Native.Nat.{ℕ}
use mathlib.Core.Bool.{Bool, true, false, cond, ◌||◌, or-false}
use mathlib.Core.Logic.{inl}
use mathlib.Core.List.{List, [], ◌∷◌, map}
use lib.Dec.{eqb}
use borrow.Author.Tests.{eqb-true}
use Rattle.arena.specs.Lists.{all}
use Rattle.arena.specs.Nodes.{F, Nodes, kind_at, type_at, elem_at}
use Rattle.arena.specs.Walks.{is_lit}
use Rattle.arena.specs.WellFormed.{is_type, is_term, sort_is}
use Rattle.arena.specs.Values.{Ty, tbool, tbv, topt, tset, trec, bool, vnone, vsome, as_bool}
use Rattle.arena.specs.Meaning.{ty_of, Interp, Good, meaning}
use Rattle.arena.proofs.Runs.{all-at}
use Rattle.arena.proofs.Ext.{Ext, ext_trans}
use Rattle.arena.proofs.Chain.{WF}
use Rattle.arena.proofs.Types.{ty_opt}
use Rattle.arena.proofs.Whole.{elem_type}
use Rattle.arena.proofs.TypeCanon.{ty_kind, ty_kind_lem}
use Rattle.arena.proofs.Base.{false_lit, false_means}
use Rattle.arena.proofs.Known.{Lit, B}
use Rattle.factory.specs.Fit.{Options}
use Rattle.factory.specs.Makers.{none_of, some_of}
use Rattle.factory.specs.Core.{or_t}
use Rattle.factory.specs.Helpers.{is_none, or_some, if_false, or_none, if_true, is_option, none_or, guarded, if_some, or_is_none, any_none_on, any_none, if_all_some}
use Rattle.factory.specs.Meanings.{is_none_v, any_none_v, is_opt, optional, lifted, means62, means63, means64, means65, means66}
use Rattle.factory.proofs.Law.{Typed, typed-type, tm_bool, opt_kind, typed_ext, mean_old, lit_old, Law, reads, onward}
use Rattle.factory.proofs.Lists.{means_old, lits_old, terms_old}
use Rattle.factory.proofs.Made.{bool-at_tm, none_law, some_law}
use Rattle.factory.proofs.Logic.{holds, or_law}
use Rattle.factory.proofs.Choice.{chosen_law, ite_law}
use Rattle.factory.proofs.Operands.{opt_of}
use Rattle.factory.proofs.Options.{is_none_law}

-- ---- options by structure

by_kind : (y : Ty) → eqb (ty_kind y) 3 ≡ is_opt y
unfolding ty_kind is_opt
by_kind tbool = refl
by_kind (tbv n) = refl
by_kind (topt z) = refl
by_kind (tset z) = refl
by_kind (trec fs) = refl

pub opt_test : {a : Nodes} → WF a → (t : ℕ) → is_type a t ≡ true → is_opt (ty_of a t) ≡ is_option a t
opt_test {a} w t h = sym (by_kind (ty_of a t)) ∙ ap (λ (n : ℕ). eqb n 3) (ty_kind_lem w t h)

typed_opt : {a : Nodes} → WF a → {y : Ty} {t : ℕ} {b : Bool} → Typed a y t → is_option a (type_at a t) ≡ b → is_opt y ≡ b
typed_opt {a} w {t = t} m e = ap is_opt (sym m.typed) ∙ opt_test w (type_at a t) (typed-type w m) ∙ e

module _ {a : Nodes} (w : WF a) {y : Ty} (g t : ℕ) (k : Typed a tbool g) (m : Typed a y t) where
  -- ---- if_false and if_true

  -- a literal where the guard is, and the term if it is chosen
  unless_law : Law a (Lit a g × (g ≡ F → Lit a t)) (topt y) (λ I. means62 (meaning I a g) (meaning I a t)) (if_false a g t)
  unfolding if_false or_some
  unless_law =
      let n = none_law w {L = Unit {0}} (type_at a t) (typed-type w m) m.typed in
      let b = none_of a (type_at a t) in
      let s = some_law n.wf t (typed_ext w n.ext m) in
      let c = some_of b.arena t in
      let e = ext_trans n.ext s.ext in
      onward e
      (reads (chosen_law s.wf g b.at c.at (typed_ext w e k) (typed_ext n.wf s.ext n.typed) s.typed)
      (λ l. (lit_old e k l.0, (λ q. lit_old s.ext n.typed (n.lit tt)), (λ q. s.lit (lit_old n.ext m (l.1 q)))))
      (λ I G. rw (mean_old e k I, mean_old s.ext n.typed I, n.means I G, s.means I G, mean_old n.ext m I)))

  pub if_false_law : Law a (Lit a g × Lit a t) (topt y) (λ I. means62 (meaning I a g) (meaning I a t)) (if_false a g t)
  if_false_law = reads unless_law (λ l. (l.0, (λ q. l.1))) (λ I G. refl)

  pub if_true_law : Law a (Lit a g × Lit a t) (topt y) (λ I. means63 (meaning I a g) (meaning I a t)) (if_true a g t)
  unfolding if_true or_none
  if_true_law =
      let s = some_law w t m in
      let b = some_of a t in
      let m' = typed_ext w s.ext m in
      let n = none_law s.wf {L = Unit {0}} (type_at b.arena t) (typed-type s.wf m') m'.typed in
      let c = none_of b.arena (type_at b.arena t) in
      let e = ext_trans s.ext n.ext in
      onward e
      (reads (ite_law n.wf g b.at c.at (typed_ext w e k) (typed_ext s.wf n.ext s.typed) n.typed)
      (λ l. (lit_old e k l.0, lit_old n.ext s.typed (s.lit l.1), n.lit tt))
      (λ I G. rw (mean_old e k I, mean_old n.ext s.typed I, s.means I G, n.means I G)))

  -- ---- what if_some and if_all_some share

  pub guarded_law : Law a (Lit a g × (g ≡ F → Lit a t)) (optional y) (λ I. cond (B I a g) vnone (lifted y (meaning I a t))) (guarded a g t)
  unfolding guarded none_or optional lifted
  guarded_law = go (is_option a (type_at a t)) refl
    where
      go : (b : Bool) → is_option a (type_at a t) ≡ b
          → Law a (Lit a g × (g ≡ F → Lit a t)) (cond (is_opt y) y (topt y)) (λ I. cond (B I a g) vnone (cond (is_opt y) (meaning I a t) (vsome (meaning I a t))))
          (cond b (none_or a g t) (if_false a g t))
      go false e = rw (typed_opt w m e) unless_law
      go true e =
          let h = eqb-true (kind_at a (type_at a t)) 3 e in
          let q = sym m.typed ∙ ty_opt w.chain (type_at a t) h in
          let n = none_law w {L = Unit {0}} (elem_at a t) (elem_type w (type_at a t) (inl h)) refl in
          let b = none_of a (elem_at a t) in
          rw (typed_opt w m e) (onward n.ext
          (reads (chosen_law n.wf g b.at t (typed_ext w n.ext k) (record { isterm = n.typed.isterm; typed = n.typed.typed ∙ sym q }) (typed_ext w n.ext m))
          (λ l. (lit_old n.ext k l.0, (λ q. n.lit tt), (λ q. lit_old n.ext m (l.1 q))))
          (λ I G. rw (mean_old n.ext k I, n.means I G, mean_old n.ext m I))))

-- a guard made by an earlier step, which means v: the answer is a literal where the guard is, and the term if v is never true
guarded-after : {a b : Nodes} {L : Type 0} {v : Interp → Bool} {y : Ty} (w : WF a) (t g : ℕ) → Typed a y t → (e : Ext a b) → WF b → Typed b tbool g
    → ((I : Interp) → Good I → meaning I b g ≡ bool (v I)) → (L → Lit b g)
    → Law a (L × (((I : Interp) → Good I → v I ≡ false) → Lit a t)) (optional y) (λ I. cond (v I) vnone (lifted y (meaning I a t))) (guarded b g t)
unfolding as_bool
guarded-after {b = b} {v = v} w t g m e wb k h l =
    onward e (reads (guarded_law wb g t k (typed_ext w e m)) (λ z. (l z.0, (λ q. lit_old e m (z.1 (never q))))) (λ I G. rw (h I G, mean_old e m I)))
  where
    never : g ≡ F → (I : Interp) → Good I → v I ≡ false
    never q I G = let z : bool (v I) ≡ bool false = sym (h I G) ∙ ap (meaning I b) q ∙ false_means I wb in cc

pub if_some_law : {a : Nodes} → WF a → {y z : Ty} (o t : ℕ) → Typed a (topt z) o → Typed a y t
    → Law a (Lit a o × Lit a t) (optional y) (λ I. means64 y (meaning I a o) (meaning I a t)) (if_some a o t)
unfolding if_some
if_some_law {a} w o t k m =
    let l = is_none_law w o k in
    reads (guarded-after w t (is_none a o).at m l.ext l.wf l.typed l.means l.lit) (λ z. (z.0, (λ q. z.1))) (λ I G. refl)

-- ---- lists of options

pub options_ext : {a b : Nodes} → WF a → Ext a b → WF b → (r : List ℕ) → Options a r → Options b r
options_ext w e v [] o = tt
options_ext w e v (x ∷ r) o =
    let m = typed_ext w e (opt_of w x o.0) in (record { isterm = m.isterm; sort = opt_kind v m }, options_ext w e v r o.1)

pub options : (a : Nodes) (r : List ℕ) → all (is_term a) r ≡ true → all (λ x. sort_is a x 3) r ≡ true → Options a r
options a [] p q = tt
options a (x ∷ r) p q =
    let p' = all-at (is_term a) x r p in
    let q' = all-at (λ x. sort_is a x 3) x r q in
    (record { isterm = p'.0; sort = eqb-true _ _ q'.0 }, options a r p'.1 q'.1)

pub options_terms : (a : Nodes) (r : List ℕ) → Options a r → all (is_term a) r ≡ true
unfolding all
options_terms a [] o = refl
options_terms a (x ∷ r) o = rw o.0.isterm (options_terms a r o.1)

-- ---- any_none

-- a member moves from the rest to what is known
shift : (x r k : Bool) → (r || (x || k)) ≡ ((x || r) || k)
shift true true k = refl
shift true false k = refl
shift false r k = refl

pub any_none_on_law : (r : List ℕ) {a : Nodes} → WF a → (acc : ℕ) → Typed a tbool acc → all (is_term a) r ≡ true → Options a r
    → Law a (Lit a acc × (all (is_lit a) r ≡ true)) tbool (λ I. bool (any_none_v (map (meaning I a) r) || B I a acc)) (any_none_on a acc r)
unfolding any_none_on or_is_none any_none_v as_bool
any_none_on_law [] w acc m p o = holds w acc m (λ I G. refl) (λ l. l.0)
any_none_on_law (x ∷ r) {a} w acc m p o =
    let t = all-at (is_term a) x r p in
    let n = is_none_law w x (opt_of w x o.0) in
    let b = is_none a x in
    let k = or_law n.wf b.at acc n.typed (typed_ext w n.ext m) in
    let c = or_t b.arena b.at acc in
    let e = ext_trans n.ext k.ext in
    onward e
    (reads (any_none_on_law r k.wf c.at k.typed (terms_old e r t.1) (options_ext w e k.wf r o.1))
    (λ l. let l' = all-at (is_lit a) x r l.1 in (k.lit (n.lit l'.0, lit_old n.ext m l.0), lits_old e r t.1 l'.1))
    (λ I G. rw (means_old e I r t.1, k.means I G, n.means I G, mean_old n.ext m I)
    (ap bool (shift (is_none_v (meaning I a x)) (any_none_v (map (meaning I a) r)) (B I a acc)))))

module _ {a : Nodes} (w : WF a) (r : List ℕ) (o : Options a r) where
  pub any_none_law : Law a (all (is_lit a) r ≡ true) tbool (λ I. means65 (map (meaning I a) r)) (any_none a r)
  unfolding any_none as_bool
  any_none_law =
      reads (any_none_on_law r w F (tm_bool w (bool-at_tm w false)) (options_terms a r o) o) (λ l. (false_lit w, l))
      (λ I G. rw (false_means I w) (ap bool (or-false (any_none_v (map (meaning I a) r)))))

  -- a literal where the options are, and the term if none of them is none
  pub all_some_law : {y : Ty} (t : ℕ) → Typed a y t
      → Law a ((all (is_lit a) r ≡ true) × (((I : Interp) → Good I → any_none_v (map (meaning I a) r) ≡ false) → Lit a t)) (optional y)
      (λ I. means66 y (map (meaning I a) r) (meaning I a t)) (if_all_some a r t)
  unfolding if_all_some
  all_some_law t m = let l = any_none_law in guarded-after w t (any_none a r).at m l.ext l.wf l.typed l.means l.lit

  pub if_all_some_law : {y : Ty} (t : ℕ) → Typed a y t
      → Law a ((all (is_lit a) r ≡ true) × Lit a t) (optional y) (λ I. means66 y (map (meaning I a) r) (meaning I a t)) (if_all_some a r t)
  if_all_some_law t m = reads (all_some_law t m) (λ z. (z.0, (λ q. z.1))) (λ I G. refl)
