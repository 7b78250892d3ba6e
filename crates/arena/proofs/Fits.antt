-- Values of a type: what each sort of value of the type is.
use mathlib.Core.Path.{◌≡◌, refl, sym, subst}
use Prim.Native.Nat.{ℕ, ◌+◌, ◌^◌, ◌<◌}
use native.Mathlib.Nat.{lt_of_lt_of_le}
use native.Mathlib.Omega.{arith}
use mathlib.Core.Bool.{Bool, true, false, cond}
use mathlib.Core.Logic.{◌⊎◌, inl, inr}
use mathlib.Core.Option.{some}
use mathlib.Core.List.{List, [], ◌∷◌, map}
use lib.Dec.{eqb}
use lib.Pow.{pow_pos, pow_mono}
use borrow.Author.Tests.{eq-eqb, eqb-true, lt-ltb, ltb-true}
use Rattle.smtlib.specs.Theory.{concat}
use Rattle.smtlib.specs.Logic.{zero_extend}
use Rattle.arena.specs.Lists.{every, all, evens, odds, field}
use Rattle.arena.specs.Nodes.{Nodes, type_at, field_types}
use Rattle.arena.specs.WellFormed.{is_term}
use Rattle.arena.specs.Values.{Ty, tbool, tbv, topt, tset, trec, TFields, tnil, tcons, Value, bool, bits, vnone, vsome, vset, vrec, Values, VFields, fnil, fcons, rising_v, rec_v, field_v, as_bool, as_bits, as_set, as_rec, value_or, all_v, fits, fits_all, zero_of, zeros_of}
use Rattle.arena.specs.Meaning.{rec_ty, Interp, Good, none_get}
use Rattle.arena.proofs.Bools.{t≢f, none≢some, Every, every-all, all-every}
use Rattle.arena.proofs.Runs.{all-at}

mutual
  unfolding fits zero_of all_v rising_v every

  pub zero_fits : (t : Ty) → fits t (zero_of t) ≡ true
  zero_fits tbool = refl
  zero_fits (tbv w) = lt-ltb 0 (2 ^ w) (pow_pos w)
  zero_fits (topt t) = refl
  zero_fits (tset t) = refl
  zero_fits (trec fs) = zeros-fit fs

  zeros-fit : (fs : TFields) → fits_all fs (zeros_of fs) ≡ true
  zeros-fit tnil = refl
  zeros-fit (tcons k t fs) = rw (eq-eqb k k refl, zero_fits t, zeros-fit fs)

-- option_get of none is a value of the type
pub none_get-fits : (I : Interp) → Good I → (t : Ty) → fits t (none_get I t) ≡ true
unfolding none_get
none_get-fits I G t = zero_fits t

-- ---- a value of a type is of its sort

pub bool-fits : (v : Value) → fits tbool v ≡ true → bool (as_bool v) ≡ v
unfolding fits as_bool
bool-fits (bool b) e = refl
bool-fits (bits n) e = t≢f (sym e)
bool-fits vnone e = t≢f (sym e)
bool-fits (vsome v) e = t≢f (sym e)
bool-fits (vset s) e = t≢f (sym e)
bool-fits (vrec f) e = t≢f (sym e)

pub bits-fits : (w : ℕ) (v : Value) → fits (tbv w) v ≡ true → (bits (as_bits v) ≡ v) × (as_bits v < 2 ^ w)
unfolding fits as_bits
bits-fits w (bool b) e = t≢f (sym e)
bits-fits w (bits n) e = (refl, ltb-true n (2 ^ w) e)
bits-fits w vnone e = t≢f (sym e)
bits-fits w (vsome v) e = t≢f (sym e)
bits-fits w (vset s) e = t≢f (sym e)
bits-fits w (vrec f) e = t≢f (sym e)

pub opt_fits : (t : Ty) (v : Value) → fits (topt t) v ≡ true → (v ≡ vnone) ⊎ ((x : Value) × (v ≡ vsome x) × (fits t x ≡ true))
unfolding fits
opt_fits t (bool b) e = t≢f (sym e)
opt_fits t (bits n) e = t≢f (sym e)
opt_fits t vnone e = inl refl
opt_fits t (vsome v) e = inr (v, refl, e)
opt_fits t (vset s) e = t≢f (sym e)
opt_fits t (vrec f) e = t≢f (sym e)

-- a set of values of the element type, rising
pub record FitSet (t : Ty) (v : Value) : Type 0 where
  pub form : vset (as_set v) ≡ v
  pub fit : all_v (λ x. fits t x) (as_set v) ≡ true
  pub rise : rising_v (as_set v) ≡ true

pub set_fits : (t : Ty) (v : Value) → fits (tset t) v ≡ true → FitSet t v
unfolding fits as_set
set_fits t (bool b) e = t≢f (sym e)
set_fits t (bits n) e = t≢f (sym e)
set_fits t vnone e = t≢f (sym e)
set_fits t (vsome v) e = t≢f (sym e)
set_fits t (vset s) e = let w = every-all _ e in record { form = refl; fit = w.0; rise = w.1.0 }
set_fits t (vrec f) e = t≢f (sym e)

pub fits_set : (t : Ty) (s : Values) → all_v (λ x. fits t x) s ≡ true → rising_v s ≡ true → fits (tset t) (vset s) ≡ true
unfolding fits
fits_set t s h k = all-every _ (h, (k, tt))

pub rec-fits : (ts : TFields) (v : Value) → fits (trec ts) v ≡ true → (vrec (as_rec v) ≡ v) × (fits_all ts (as_rec v) ≡ true)
unfolding fits as_rec
rec-fits ts (bool b) e = t≢f (sym e)
rec-fits ts (bits n) e = t≢f (sym e)
rec-fits ts vnone e = t≢f (sym e)
rec-fits ts (vsome v) e = t≢f (sym e)
rec-fits ts (vset s) e = t≢f (sym e)
rec-fits ts (vrec f) e = (refl, e)

-- ---- what is made of values of a type

pub bits_wider : (u n m : ℕ) → m < 2 ^ u → m < 2 ^ (u + n)
bits_wider u n m h = lt_of_lt_of_le h (pow_mono (omega arith))

pub get_fits : (t : Ty) (d v : Value) → fits t d ≡ true → fits (topt t) v ≡ true → fits t (value_or d v) ≡ true
unfolding fits value_or
get_fits t d (bool b) h e = h
get_fits t d (bits n) h e = h
get_fits t d vnone h e = h
get_fits t d (vsome v) h e = e
get_fits t d (vset s) h e = h
get_fits t d (vrec f) h e = h

pub pick_fits : (t : Ty) (g : Bool) (v w : Value) → fits t v ≡ true → fits t w ≡ true → fits t (cond g v w) ≡ true
pick_fits t true v w h k = h
pick_fits t false v w h k = k

-- the record of a run of fields, f giving each field's value, g its type
pub fields_fit : (g : ℕ → Ty) (f : ℕ → Value) (a : Nodes) → ((x : ℕ) → is_term a x ≡ true → fits (g (type_at a x)) (f x) ≡ true)
    → (r : List ℕ) → all (is_term a) (odds r) ≡ true
    → fits_all (rec_ty (evens (field_types a r)) (map g (odds (field_types a r)))) (rec_v (evens r) (map f (odds r))) ≡ true
unfolding field_types evens odds rec_ty rec_v fits every
fields_fit g f a h [] e = refl
fields_fit g f a h (x ∷ []) e = refl
fields_fit g f a h (x ∷ y ∷ r) e =
    let p = all-at (is_term a) y (odds r) e in
    rw (eq-eqb x x refl, h y p.0, fields_fit g f a h r p.1)

-- a field of a record
pub field_fits : (f : ℕ → Ty) (k u : ℕ) (ms : List ℕ) (fs : VFields) → field ms k ≡ some u → fits_all (rec_ty (evens ms) (map f (odds ms))) fs ≡ true
    → fits (f u) (field_v k fs) ≡ true
unfolding field evens odds rec_ty fits field_v
field_fits f k u [] fs e h = none≢some e
field_fits f k u (x ∷ []) fs e h = none≢some e
field_fits f k u (x ∷ y ∷ r) fnil e h = t≢f (sym h)
field_fits f k u (x ∷ y ∷ r) (fcons j v fs) e h = go (eqb x k) refl (λ q. field_fits f k u r fs q w.1.1.0)
  where
    w : Every (eqb x j ∷ fits (f y) v ∷ fits_all (rec_ty (evens r) (map f (odds r))) fs ∷ [])
    w = every-all _ h

    go : (b : Bool) → eqb x k ≡ b → (field r k ≡ some u → fits (f u) (field_v k fs) ≡ true) → fits (f u) (cond (eqb j k) v (field_v k fs)) ≡ true
    go true q ih =
        let p : some y ≡ some u = rw (q, field) at e in
        let p' : y ≡ u = cc in
        rw (sym (eqb-true x j w.0)) (rw q (subst (λ (z : ℕ). fits (f z) v ≡ true) p' w.1.0))
    go false q ih = rw (sym (eqb-true x j w.0)) (rw q (ih (rw (q, field) at e)))

-- zero_extend keeps the number
pub zero_extend_is : (m i s : ℕ) → zero_extend m i s ≡ s
unfolding zero_extend concat
zero_extend_is m i s = omega arith
