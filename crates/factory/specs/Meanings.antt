-- What each operation means, from document 01's section 'Meanings', in the order of its numbers: a value from the values of the operands.
-- I is the interpretation, w a width, t a type, k an attribute, op an operation's number.
use Rattle.std.specs.Prelude.{ℕ, Bool, true, false, not, cond, ◌&&◌, ◌||◌, List, [], ◌∷◌, map, eqb, ltb}
use Rattle.smtlib.specs.Theory.{bvneg}
use Rattle.smtlib.specs.Logic.{zero_extend}
use Rattle.smtlib.specs.Overflow.{bvnego}
use Rattle.smtlib.specs.Numbered.{bvapp_of, bvcmp_of, bvso_of}
use Rattle.arena.specs.Lists.{evens, odds, fields_of}
use Rattle.arena.specs.Values.{Ty, tbool, tbv, topt, tset, trec, Value, bool, bits, vnone, vsome, vset, vrec, Values, vnil, vcons, VFields, fnil, fcons, case_v, eq_v, set_v, mem_v, subset_v, inter_v, field_v, as_bool, as_bits, as_set, as_rec, value_or}
use Rattle.arena.specs.Meaning.{rec_ty, Interp, none_get}

-- ---- makers

-- bool literal
abbrev pub means10 : Bool → Value
means10 b = bool b

-- bitvec literal
abbrev pub means11 : ℕ → Value
means11 n = bits n

-- None
abbrev pub means12 : Value
means12 = vnone

-- Some
abbrev pub means13 : Value → Value
means13 v = vsome v

-- set: the finite set of the members
abbrev pub means14 : List Value → Value
means14 vs = vset (set_v vs)

-- a field into a record by rising attributes; one that is there is replaced
unfoldable pub put_v : ℕ → Value → VFields → VFields
put_v k v fnil = fcons k v fnil
put_v k v (fcons j u fs) = cond (ltb k j) (fcons k v (fcons j u fs)) (cond (eqb k j) (fcons k v fs) (fcons j u (put_v k v fs)))

-- listed fields into a record, in order of listing, so that of equal attributes the last wins
unfoldable pub listed_v : VFields → List ℕ → List Value → VFields
listed_v fs [] vs = fs
listed_v fs (k ∷ ks) [] = fs
listed_v fs (k ∷ ks) (v ∷ vs) = listed_v (put_v k v fs) ks vs

-- the record type of listed fields, each value's type by f; of equal attributes the last wins
abbrev pub record_ty : (ℕ → Ty) → List ℕ → Ty
record_ty f ats = trec (rec_ty (evens (fields_of [] ats)) (map f (odds (fields_of [] ats))))

-- record
abbrev pub means15 : List ℕ → List Value → Value
means15 ks vs = vrec (listed_v fnil ks vs)

-- variable
abbrev pub means16 : Interp → ℕ → Ty → Value
means16 I id t = I.var id t

-- ---- core

-- not
abbrev pub means20 : Value → Value
means20 v = bool (not (as_bool v))

-- and
abbrev pub means21 : Value → Value → Value
means21 v w = bool (as_bool v && as_bool w)

-- or
abbrev pub means22 : Value → Value → Value
means22 v w = bool (as_bool v || as_bool w)

-- implies
abbrev pub means23 : Value → Value → Value
means23 v w = bool (not (as_bool v) || as_bool w)

-- eq
abbrev pub means24 : Value → Value → Value
means24 v w = bool (eq_v v w)

-- ite
abbrev pub means25 : Value → Value → Value → Value
means25 g v w = cond (as_bool g) v w

-- uninterpreted application: t the term's type, u the result's
abbrev pub means26 : Interp → ℕ → Ty → Ty → Value → Value
means26 I id t u v = I.fun id t u v

-- ---- bitvectors

-- neg
abbrev pub means30 : ℕ → Value → Value
means30 w v = bits (bvneg w (as_bits v))

-- 31 to 40, as the crate bitvec numbers them
abbrev pub means_app : ℕ → ℕ → Value → Value → Value
means_app op w v u = bits (bvapp_of op w (as_bits v) (as_bits u))

-- 41 to 44
abbrev pub means_cmp : ℕ → ℕ → Value → Value → Value
means_cmp op w v u = bool (bvcmp_of op w (as_bits v) (as_bits u))

-- nego
abbrev pub means45 : ℕ → Value → Value
means45 w v = bool (bvnego w (as_bits v))

-- 46 to 48
abbrev pub means_so : ℕ → ℕ → Value → Value → Value
means_so op w v u = bool (bvso_of op w (as_bits v) (as_bits u))

-- zero_extend adds n to the width
abbrev pub means49 : ℕ → ℕ → Value → Value
means49 w n v = bits (zero_extend w n (as_bits v))

-- ---- sets, options and records

-- member
abbrev pub means50 : Value → Value → Value
means50 v s = bool (mem_v v (as_set s))

-- subset
abbrev pub means51 : Value → Value → Value
means51 s t = bool (subset_v (as_set s) (as_set t))

-- inter
abbrev pub means52 : Value → Value → Value
means52 s t = vset (inter_v (as_set s) (as_set t))

-- no member
unfoldable pub empty_v : Values → Bool
empty_v vnil = true
empty_v (vcons v r) = false

-- is_empty
abbrev pub means53 : Value → Value
means53 s = bool (empty_v (as_set s))

-- intersects: some member is common
abbrev pub means54 : Value → Value → Value
means54 s t = bool (not (empty_v (inter_v (as_set s) (as_set t))))

-- option_get: t the element type
abbrev pub means55 : Interp → Ty → Value → Value
means55 I t v = value_or (none_get I t) v

-- record_get
abbrev pub means56 : ℕ → Value → Value
means56 k v = field_v k (as_rec v)

-- ---- helpers

-- the option is none
unfoldable pub is_none_v : Value → Bool
is_none_v = case_v (λ b. false) (λ n. false) true (λ v. false) (λ vs. false) (λ fs. false)

-- any is none
unfoldable pub any_none_v : List Value → Bool
any_none_v [] = false
any_none_v (v ∷ vs) = is_none_v v || any_none_v vs

-- an Option
unfoldable pub is_opt : Ty → Bool
is_opt tbool = false
is_opt (tbv w) = false
is_opt (topt t) = true
is_opt (tset t) = false
is_opt (trec fs) = false

-- that type if an Option, else Option of it
unfoldable pub optional : Ty → Ty
optional t = cond (is_opt t) t (topt t)

-- a value of the type t, put in some if it is no option
unfoldable pub lifted : Ty → Value → Value
lifted t v = cond (is_opt t) v (vsome v)

-- is_none
abbrev pub means60 : Value → Value
means60 v = bool (is_none_v v)

-- is_some
abbrev pub means61 : Value → Value
means61 v = bool (not (is_none_v v))

-- if_false
abbrev pub means62 : Value → Value → Value
means62 g v = cond (as_bool g) vnone (vsome v)

-- if_true
abbrev pub means63 : Value → Value → Value
means63 g v = cond (as_bool g) (vsome v) vnone

-- if_some: t the term's type
abbrev pub means64 : Ty → Value → Value → Value
means64 t o v = cond (is_none_v o) vnone (lifted t v)

-- any_none
abbrev pub means65 : List Value → Value
means65 vs = bool (any_none_v vs)

-- if_all_some: t the term's type
abbrev pub means66 : Ty → List Value → Value → Value
means66 t os v = cond (any_none_v os) vnone (lifted t v)
