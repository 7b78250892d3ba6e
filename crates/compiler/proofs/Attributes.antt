-- The laws of 74 has_attr and 75 get_attr.
use mathlib.Core.Path.{◌≡◌, refl, sym, ap, ◌∙◌}
use Prim.Native.Nat.{ℕ}
use mathlib.Core.Bool.{Bool, true, false, cond, ◌||◌}
use mathlib.Core.Option.{Option, none, some}
use mathlib.Core.List.{List, [], ◌∷◌, map}
use lib.Dec.{eqb}
use borrow.Author.Tests.{eqb-true}
use Rattle.arena.specs.Lists.{evens, odds, field}
use Rattle.arena.specs.Nodes.{F, T, Nodes, kind_at, type_at, Out, out, ◌⨟◌}
use Rattle.arena.specs.WellFormed.{small, is_term}
use Rattle.arena.specs.Values.{Ty, tbool, tbv, topt, tset, trec, Value, bool, bits, vnone, vsome, vset, vrec, VFields, fnil, fcons, as_rec, fits, fits_all}
use Rattle.arena.specs.Meaning.{rec_ty, ty_of, Interp, Good, meaning}
use Rattle.arena.proofs.Bools.{t≢f, every-all}
use Rattle.arena.proofs.Runs.{field-field_d}
use Rattle.arena.proofs.Chain.{WF}
use Rattle.arena.proofs.Types.{ty_opt, ty_rec}
use Rattle.arena.proofs.Whole.{field-type}
use Rattle.arena.proofs.Fits.{rec-fits, field_fits}
use Rattle.arena.proofs.Sound.{fit_at}
use Rattle.arena.proofs.Known.{Lit}
use Rattle.factory.specs.Makers.{some_of}
use Rattle.factory.specs.SetSteps.{record_get}
use Rattle.factory.specs.Helpers.{is_option}
use Rattle.factory.specs.Meanings.{is_none_v, is_opt, optional, lifted}
use Rattle.factory.proofs.Law.{Law, reads, onward, law_if}
use Rattle.factory.proofs.Made.{bool_law}
use Rattle.factory.proofs.Options.{is_some_law}
use Rattle.factory.proofs.Records.{record_get_law}
use Rattle.factory.proofs.Guards.{opt_test}
use Rattle.compiler.specs.Compiler.{fields_at, has_some, compiled_has_attr, optioned, compiled_get_attr}
use Rattle.compiler.specs.Meanings.{has_v, means74, means75}
use Rattle.compiler.proofs.Unary.{some_after}

-- ---- a value of a record type has the attributes of the type

is_there : Option ℕ → Bool
is_there none = false
is_there (some u) = true

has-field : (f : ℕ → Ty) (k : ℕ) (ms : List ℕ) (fs : VFields) → fits_all (rec_ty (evens ms) (map f (odds ms))) fs ≡ true → has_v k fs ≡ is_there (field ms k)
unfolding field evens odds rec_ty fits has_v is_there
has-field f k [] fnil h = refl
has-field f k [] (fcons j v fs) h = t≢f (sym h)
has-field f k (x ∷ []) fnil h = refl
has-field f k (x ∷ []) (fcons j v fs) h = t≢f (sym h)
has-field f k (x ∷ y ∷ r) fnil h = t≢f (sym h)
has-field f k (x ∷ y ∷ r) (fcons j v fs) h =
    let w = every-all _ h in
    ap (λ (z : ℕ). eqb z k || has_v k fs) (sym (eqb-true x j w.0)) ∙ go (eqb x k) (has-field f k r fs w.1.1.0)
  where
    go : (b : Bool) → has_v k fs ≡ is_there (field r k) → (b || has_v k fs) ≡ is_there (cond b (some y) (field r k))
    go true ih = refl
    go false ih = ih

-- only an Option's value is none
not_none : (y : Ty) (v : Value) → is_opt y ≡ false → fits y v ≡ true → is_none_v v ≡ false
unfolding is_opt fits is_none_v
not_none y (bool b) e h = refl
not_none y (bits n) e h = refl
not_none tbool vnone e h = t≢f (sym h)
not_none (tbv w) vnone e h = t≢f (sym h)
not_none (topt t) vnone e h = t≢f e
not_none (tset t) vnone e h = t≢f (sym h)
not_none (trec fs) vnone e h = t≢f (sym h)
not_none y (vsome v) e h = refl
not_none y (vset s) e h = refl
not_none y (vrec fs) e h = refl

-- ---- of a record term

module _ {a : Nodes} (w : WF a) (k t : ℕ) (s : small k ≡ true) (m : is_term a t ≡ true) (h : kind_at a (type_at a t) ≡ 5) where
  fitted : (I : Interp) → Good I → fits_all (rec_ty (evens (fields_at a t)) (map (ty_of a) (odds (fields_at a t)))) (as_rec (meaning I a t)) ≡ true
  fitted I G = (rec-fits _ (meaning I a t) (ap (λ (y : Ty). fits y (meaning I a t)) (sym (ty_rec w.chain (type_at a t) h)) ∙ fit_at I G w t m)).1

  there : (I : Interp) → Good I → {f : Option ℕ} → field (fields_at a t) k ≡ f → has_v k (as_rec (meaning I a t)) ≡ is_there f
  there I G e = has-field (ty_of a) k (fields_at a t) (as_rec (meaning I a t)) (fitted I G) ∙ ap is_there e

  pub compiled_has_attr_law : Law a (Lit a t) (topt tbool) (λ I. means74 k (meaning I a t)) (compiled_has_attr a k t)
  unfolding compiled_has_attr has_some is_there
  compiled_has_attr_law = go (field (fields_at a t) k) refl
    where
      go : (f : Option ℕ) → field (fields_at a t) k ≡ f → Law a (Lit a t) (topt tbool) (λ I. means74 k (meaning I a t))
          (elim f [ none ↦ some_of a F | some y ↦ cond (is_option a y) (record_get a k t ⨟ has_some) (some_of a T) ])
      go none e = reads (some_after (bool_law w {L = Lit a t} false)) (λ l. l) (λ I G. rw (there I G e))
      go (some u) e =
          law_if (is_option a u) _ _
          (λ o.
          let l = record_get_law w k t u s m h e in
          let p = record_get a k t in
          let q = ty_opt w.chain u (eqb-true (kind_at a u) 3 o) in
          let n = is_some_law l.wf p.at (record { isterm = l.typed.isterm; typed = l.typed.typed ∙ q }) in
          onward l.ext (reads (some_after n) l.lit (λ I G. rw (l.means I G, there I G e))))
          (λ o. reads (some_after (bool_law w {L = Lit a t} true)) (λ l. l)
          (λ I G. rw (there I G e, not_none (ty_of a u) _ (opt_test w u (field-type w (type_at a t) k u h e) ∙ o) (field_fits (ty_of a) k u (fields_at a t) (as_rec (meaning I a t)) e (fitted I G)))))

  -- u is the type of the attribute k
  pub compiled_get_attr_law : (u : ℕ) → field (fields_at a t) k ≡ some u → Law a (Lit a t) (optional (ty_of a u)) (λ I. means75 (ty_of a u) k (meaning I a t)) (compiled_get_attr a k t)
  unfolding compiled_get_attr optioned optional lifted
  compiled_get_attr_law u e =
      let l = record_get_law w k t u s m h e in
      rw (field-field_d (fields_at a t) k u e, opt_test w u (field-type w (type_at a t) k u h e)) (go l (is_option a u))
    where
      go : {y : Ty} {v : Interp → Value} {o : Out} → Law a (Lit a t) y v o → (b : Bool) → Law a (Lit a t) (cond b y (topt y)) (λ I. cond b (v I) (vsome (v I))) (cond b (out o.arena o.at) (some_of o.arena o.at))
      go l true = l
      go l false = some_after l
