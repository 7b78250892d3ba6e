-- The law of 73, compiled record.
use mathlib.Core.Path.{◌≡◌, refl, sym, ap, ap₂, ◌∙◌}
use Prim.Native.Nat.{ℕ, suc, ◌%◌, ◌≤◌}
use native.Mathlib.Omega.{arith}
use mathlib.Core.Bool.{Bool, true, false, cond}
use mathlib.Core.Logic.{◌⊎◌, inl, inr}
use mathlib.Core.List.{List, [], ◌∷◌, map}
use lib.ListN.{length}
use lib.Dec.{eqb, ltb}
use borrow.Author.Tests.{eqb-true, eq-eqb}
use Rattle.arena.specs.Lists.{all, evens, odds, put_field, fields_of}
use Rattle.arena.specs.Nodes.{Nodes, ◌⨟◌}
use Rattle.arena.specs.Walks.{is_lit}
use Rattle.arena.specs.WellFormed.{small, is_term, sort_is}
use Rattle.arena.specs.Values.{Ty, topt, trec, Value, vnone, vsome, value_or, fits}
use Rattle.arena.specs.Meaning.{rec_ty, ty_at, Interp, Good, meaning}
use Rattle.arena.proofs.Bools.{t≢f, or_false_l, or_false_r}
use Rattle.arena.proofs.Runs.{all-at, all_cons, all0}
use Rattle.arena.proofs.Ext.{Ext, ext_same, ext_trans}
use Rattle.arena.proofs.Chain.{WF}
use Rattle.arena.proofs.Fits.{opt_fits}
use Rattle.arena.proofs.Sound.{fit_at}
use Rattle.arena.proofs.Known.{none_means, zero_i, zero_g}
use Rattle.factory.specs.Fit.{Options}
use Rattle.factory.specs.Makers.{some_of, record_of}
use Rattle.factory.specs.SetSteps.{option_get}
use Rattle.factory.specs.Meanings.{means15, means55, is_none_v, any_none_v, is_opt, optional, lifted}
use Rattle.factory.proofs.Law.{Typed, opt_typed, typed_ext, mean_old, lit_old, Law, reads, retyped, onward}
use Rattle.factory.proofs.Lists.{means_old, lits_old}
use Rattle.factory.specs.Meanings.{record_ty}
use Rattle.factory.proofs.Listed.{record_law}
use Rattle.factory.proofs.Options.{get_law}
use Rattle.factory.proofs.Guards.{options, options_ext, all_some_law}
use Rattle.compiler.specs.Compiler.{gotten, inner, if_all_given, record_if_all, compiled_record}
use Rattle.compiler.specs.Meanings.{inner_v, inner_ty, means73}
use Rattle.compiler.proofs.Unary.{some_after}

-- ---- two runs of fields with the same attributes, f saying of the one what g says of the other

pub data Alike {X : Type 0} (f g : ℕ → X) : List ℕ → List ℕ → Type 0 where
  nil : Alike f g [] []
  pair : {x y z : ℕ} {r q : List ℕ} → f y ≡ g z → Alike f g r q → Alike f g (x ∷ y ∷ r) (x ∷ z ∷ q)

module _ {X : Type 0} {f g : ℕ → X} where
  pub alike_keys : {r q : List ℕ} → Alike f g r q → evens r ≡ evens q
  unfolding evens
  alike_keys nil = refl
  alike_keys (pair {x = x} e l) = ap (λ (r : List ℕ). x ∷ r) (alike_keys l)

  alike_holds : {r q : List ℕ} → Alike f g r q → map f (odds r) ≡ map g (odds q)
  unfolding odds
  alike_holds nil = refl
  alike_holds (pair e l) = ap₂ ◌∷◌ e (alike_holds l)

  alike_put : (k v u : ℕ) → f v ≡ g u → {r q : List ℕ} → Alike f g r q → Alike f g (put_field k v r) (put_field k u q)
  unfolding put_field
  alike_put k v u e nil = pair e nil
  alike_put k v u e (pair {x = x} {y = y} {z = z} {r = r} {q = q} h l) = go (ltb k x) (eqb k x) (alike_put k v u e l)
    where
      go : (b c : Bool) → Alike f g (put_field k v r) (put_field k u q)
          → Alike f g (cond b (k ∷ v ∷ x ∷ y ∷ r) (cond c (k ∷ v ∷ r) (x ∷ y ∷ put_field k v r))) (cond b (k ∷ u ∷ x ∷ z ∷ q) (cond c (k ∷ u ∷ q) (x ∷ z ∷ put_field k u q)))
      go true c ih = pair e (pair h l)
      go false true ih = pair e l
      go false false ih = pair h ih

  alike_fields : {d c r q : List ℕ} → Alike f g d c → Alike f g r q → Alike f g (fields_of d r) (fields_of c q)
  unfolding fields_of
  alike_fields m nil = m
  alike_fields {d = d} {c = c} m (pair {x = x} {y = y} {z = z} e l) = alike_fields {d = put_field x y d} {c = put_field x z c} (alike_put x y z e m) l

-- ---- option_get of every listed field

module _ {a : Nodes} (w : WF a) where
  -- the term at x is an option
  option : (x : ℕ) → is_term a x ≡ true → sort_is a x 3 ≡ true → Typed a (topt (inner_ty (ty_at a x))) x
  unfolding inner_ty
  option x h e =
      let q = (opt_typed w x h (eqb-true _ _ e)).typed in
      record { isterm = h; typed = q ∙ ap (λ (y : Ty). topt (inner_ty y)) (sym q) }

  -- what option_get of the option at x means
  abbrev got : Interp → ℕ → Value
  got I x = means55 I (inner_ty (ty_at a x)) (meaning I a x)

  -- no option in r is ever none
  abbrev Somes : List ℕ → Type 0
  Somes r = (I : Interp) → Good I → any_none_v (map (meaning I a) r) ≡ false

  some_head : (x : ℕ) (r : List ℕ) → Somes (x ∷ r) → (I : Interp) → Good I → is_none_v (meaning I a x) ≡ false
  unfolding any_none_v
  some_head x r s I G = or_false_l _ _ (s I G)

  some_tail : (x : ℕ) (r : List ℕ) → Somes (x ∷ r) → Somes r
  unfolding any_none_v
  some_tail x r s I G = or_false_r (is_none_v (meaning I a x)) _ (s I G)

  -- the fields `new` in the arena c hold option_get of those in r
  pub record Got (b : Nodes) (r : List ℕ) (c : Nodes) (new : List ℕ) : Type 0 where
    pub ext : Ext b c
    pub wf : WF c
    pub count : length new ≡ length r
    pub terms : all (is_term c) (odds new) ≡ true
    pub types : Alike (ty_at c) (λ x. inner_ty (ty_at a x)) new r
    pub means : (I : Interp) → Good I → Alike (meaning I c) (got I) new r
    pub lits : all (is_lit a) (odds r) ≡ true → Somes (odds r) → all (is_lit c) (odds new) ≡ true

  -- one more field, whose option_get is built first
  got_pair : {b : Nodes} → Ext a b → WF b → (x y : ℕ) (r : List ℕ) → Typed a (topt (inner_ty (ty_at a y))) y → {c : Nodes} {new : List ℕ}
      → Got (option_get b y).arena r c new → Got b (x ∷ y ∷ r) c (x ∷ (option_get b y).at ∷ new)
  unfolding odds is_none_v
  got_pair {b} e wb x y r m {c} {new} g =
      let l = get_law wb y (typed_ext w e m) in
      let o = option_get b y in
      let m' = typed_ext l.wf g.ext l.typed in
      record {
        ext = ext_trans l.ext g.ext;
        wf = g.wf;
        count = let k = g.count in ap (λ (n : ℕ). suc (suc n)) k;
        terms = all_cons (is_term c) o.at (odds new) m'.isterm g.terms;
        types = pair m'.typed g.types;
        means = λ I G. pair (mean_old g.ext l.typed I ∙ l.means I G ∙ ap (means55 I (inner_ty (ty_at a y))) (mean_old e m I)) (g.means I G);
        lits = λ z s.
            let z' = all-at (is_lit a) y (odds r) z in
            all_cons (is_lit c) o.at (odds new)
            (lit_old g.ext l.typed (l.lit (lit_old e m z'.0, (λ k. t≢f (sym (ap is_none_v (sym (mean_old e m zero_i) ∙ none_means zero_i wb y k)) ∙ some_head y (odds r) s zero_i zero_g)))))
            (g.lits z'.1 (some_tail y (odds r) s));
      }

  pub got_all : (r : List ℕ) → length r % 2 ≡ 0 → Options a (odds r) → {b : Nodes} → Ext a b → WF b → Got b r (gotten b r) (inner b r)
  unfolding gotten inner odds
  got_all [] h o {b} e wb =
      record { ext = ext_same; wf = wb; count = refl; terms = all0 (is_term b); types = nil; means = λ I G. nil; lits = λ z s. all0 (is_lit b) }
  got_all (x ∷ []) h o e wb = absurd (omega arith)
  got_all (x ∷ y ∷ r) h o e wb =
      let m = option y o.0.isterm (eq-eqb _ _ o.0.sort) in
      let l = get_law wb y (typed_ext w e m) in
      got_pair e wb x y r m (got_all r (omega arith) o.1 (ext_trans e l.ext) l.wf)

  -- where none is none, option_get means the inner values
  got_inner : (I : Interp) → Good I → (r : List ℕ) → all (is_term a) r ≡ true → all (λ x. sort_is a x 3) r ≡ true → any_none_v (map (meaning I a) r) ≡ false
      → map (got I) r ≡ map inner_v (map (meaning I a) r)
  unfolding any_none_v is_none_v inner_v value_or
  got_inner I G [] p q s = refl
  got_inner I G (x ∷ r) p q s =
      let p' = all-at (is_term a) x r p in
      let q' = all-at (λ x. sort_is a x 3) x r q in
      ap₂ ◌∷◌ (go (opt_fits (inner_ty (ty_at a x)) (meaning I a x) (ap (λ (y : Ty). fits y (meaning I a x)) (sym (option x p'.0 q'.0).typed) ∙ fit_at I G w x p'.0)))
      (got_inner I G r p'.1 q'.1 (or_false_r (is_none_v (meaning I a x)) _ s))
    where
      go : (meaning I a x ≡ vnone) ⊎ ((v : Value) × (meaning I a x ≡ vsome v) × (fits (inner_ty (ty_at a x)) v ≡ true)) → got I x ≡ value_or vnone (meaning I a x)
      go (inl e) = t≢f (sym (ap is_none_v e) ∙ or_false_l _ _ s)
      go (inr e) = rw e.1

-- ---- 73 record

pub compiled_record_law : {a : Nodes} → WF a → (ats : List ℕ) → length ats % 2 ≡ 0 → length ats ≤ 128 → all small (evens ats) ≡ true → all (is_term a) (odds ats) ≡ true
    → all (λ x. sort_is a x 3) (odds ats) ≡ true
    → Law a (all (is_lit a) (odds ats) ≡ true) (topt (record_ty (λ x. inner_ty (ty_at a x)) ats)) (λ I. means73 (evens ats) (map (meaning I a) (odds ats))) (compiled_record a ats)
unfolding compiled_record record_if_all if_all_given optional lifted is_opt
compiled_record_law {a} w ats even few s p q =
    let gs = options a (odds ats) p q in
    let g = got_all w ats even gs ext_same w in
    let b = gotten a ats in
    let new = inner a ats in
    let keys : evens new ≡ evens ats = alike_keys g.types in
    let many = g.count in
    let r = some_after (record_law g.wf new (omega arith) (ap (all small) keys ∙ s) g.terms) in
    let o = record_of b new ⨟ some_of in
    let e = ext_trans g.ext r.ext in
    let f = alike_fields nil g.types in
    let y : record_ty (ty_at b) new ≡ record_ty (λ x. inner_ty (ty_at a x)) ats = ap₂ (λ (ks : List ℕ) (ts : List Ty). trec (rec_ty ks ts)) (alike_keys f) (alike_holds f) in
    retyped (ap topt y) (onward e
    (reads (all_some_law r.wf (odds ats) (options_ext w e r.wf (odds ats) gs) o.at r.typed)
    (λ l. (lits_old e (odds ats) p l, (λ n. r.lit (g.lits l (λ I G. ap any_none_v (sym (means_old e I (odds ats) p)) ∙ n I G)))))
    (λ I G. ap₂ (λ (vs : List Value) (v : Value). cond (any_none_v vs) vnone v) (means_old e I (odds ats) p)
    (r.means I G ∙ ap₂ (λ (ks : List ℕ) (vs : List Value). vsome (means15 ks vs)) keys (alike_holds (g.means I G)))
    ∙ by_none I G (any_none_v (map (meaning I a) (odds ats))) refl)))
  where
    by_none : (I : Interp) → Good I → (b : Bool) → any_none_v (map (meaning I a) (odds ats)) ≡ b
        → cond b vnone (vsome (means15 (evens ats) (map (got w I) (odds ats)))) ≡ cond b vnone (vsome (means15 (evens ats) (map inner_v (map (meaning I a) (odds ats)))))
    by_none I G true e = refl
    by_none I G false e = ap (λ (vs : List Value). vsome (means15 (evens ats) vs)) (got_inner w I G (odds ats) p q e)
