-- What the steps on a record's fields read and keep. Assumes nothing.
use mathlib.Core.Path.{◌≡◌, refl, sym, ap, ◌∙◌}
use Prim.Native.Nat.{ℕ, ◌≤◌}
use mathlib.Core.Bool.{Bool, true, false, cond}
use mathlib.Core.Option.{Option, none, some}
use mathlib.Core.List.{List}
use borrow.Author.Tests.{eq-eqb, ne_eqb}
use Rattle.arena.specs.Lists.{field, field_d}
use Rattle.arena.specs.Nodes.{F, T, Nodes, kind_at, type_at, Out, ◌⨟◌}
use Rattle.arena.specs.Values.{Ty}
use Rattle.arena.proofs.Bools.{by_cases, t≢f}
use Rattle.arena.proofs.Runs.{field-field_d}
use Rattle.arena.proofs.Ext.{Ext, ext_same}
use Rattle.arena.proofs.Chain.{WF}
use Rattle.arena.proofs.Base.{tm_ext}
use Rattle.arena.proofs.Whole.{kind_ext}
use Rattle.arena.proofs.Types.{ty_opt}
use Rattle.factory.specs.Fit.{Typed, OfKind}
use Rattle.factory.specs.Makers.{some_of}
use Rattle.factory.specs.SetSteps.{record_get}
use Rattle.factory.specs.Helpers.{is_option}
use Rattle.factory.proofs.Law.{opt_kind}
use Rattle.factory.proofs.Made.{some_law}
use Rattle.factory.proofs.Records.{record_get_law}
use Rattle.compiler.specs.Compiler.{fields_at, has_field, has_some, compiled_has_attr, optioned}
use Rattle.compiler.specs.Buffers.{OptionalField}

-- a term of a type of kind k stays one
pub kind_keep : {a b : Nodes} {k x : ℕ} → Ext a b → 1 ≤ k → OfKind a k x → OfKind b k x
kind_keep {a} {b} {k} {x} e h o =
    let m = tm_ext e (record { isterm = o.isterm; typed = refl }) in
    record { isterm = m.isterm; sort = ap (kind_at b) m.typed ∙ kind_ext e (type_at a x) k o.sort h }

pub has_some_lem : (fs : List ℕ) (k u : ℕ) → field fs k ≡ some u → has_field fs k ≡ true
unfolding has_field
has_some_lem fs k u e = rw (e, has_field)

pub has_none : (fs : List ℕ) (k : ℕ) → field fs k ≡ none → has_field fs k ≡ false
unfolding has_field
has_none fs k e = rw (e, has_field)

pub field-there : (fs : List ℕ) (k : ℕ) → has_field fs k ≡ true → field fs k ≡ some (field_d fs k)
field-there fs k h = go (field fs k) refl
  where
    go : (f : Option ℕ) → field fs k ≡ f → field fs k ≡ some (field_d fs k)
    go none e = t≢f (sym h ∙ has_none fs k e)
    go (some u) e = e ∙ ap some (sym (field-field_d fs k u e))

pub field-absent : (fs : List ℕ) (k : ℕ) → has_field fs k ≡ false → field fs k ≡ none
field-absent fs k h = go (field fs k) refl
  where
    go : (f : Option ℕ) → field fs k ≡ f → field fs k ≡ none
    go none e = e
    go (some u) e = t≢f (sym (has_some_lem fs k u e) ∙ h)

-- the three answers of has_attr
module _ (a : Nodes) (k t : ℕ) where
  abbrev by_field : Option ℕ → Out
  by_field f = elim f [ none ↦ some_of a F | some y ↦ cond (is_option a y) (record_get a k t ⨟ has_some) (some_of a T) ]

  pub has-absent : field (fields_at a t) k ≡ none → compiled_has_attr a k t ≡ some_of a F
  unfolding compiled_has_attr
  has-absent e = ap by_field e

  pub has-option : {y : ℕ} → field (fields_at a t) k ≡ some y → kind_at a y ≡ 3 → compiled_has_attr a k t ≡ (record_get a k t ⨟ has_some)
  unfolding compiled_has_attr
  has-option {y} e h = ap by_field e ∙ ap (λ (b : Bool). cond b (record_get a k t ⨟ has_some) (some_of a T)) (eq-eqb _ _ h)

  pub has-plain : {y : ℕ} → field (fields_at a t) k ≡ some y → (kind_at a y ≡ 3 → ⊥) → compiled_has_attr a k t ≡ some_of a T
  unfolding compiled_has_attr
  has-plain {y} e h = ap by_field e ∙ ap (λ (b : Bool). cond b (record_get a k t ⨟ has_some) (some_of a T)) (ne_eqb _ _ h)

-- record_get of an optional field is an option
pub optional_got : {a : Nodes} (w : WF a) {k t : ℕ} → OptionalField a k t → OfKind (record_get a k t).arena 3 (record_get a k t).at
optional_got {a} w {k} {t} o =
    let h = o.has in
    let u = field_d (fields_at a t) k in
    let l = record_get_law w k t u h.small h.rec.isterm h.rec.sort h.there in
    record { isterm = l.typed.isterm; sort = opt_kind l.wf (record { isterm = l.typed.isterm; typed = l.typed.typed ∙ ty_opt w.chain u o.option }) }

pub optioned_ext : {a : Nodes} (w : WF a) {y : Ty} (b : Bool) (p : ℕ) → Typed a y p → Ext a (optioned b a p).arena
unfolding optioned
optioned_ext {a} w b p m = by_cases (λ (o : Out). Ext a o.arena) b _ _ (λ e. ext_same) (λ e. (some_law w p m).ext)
