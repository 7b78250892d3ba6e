-- What each compiled operator means, from document 01's section 'Meanings', in the order of their numbers.
use Rattle.std.specs.Prelude.{ℕ, Bool, false, not, cond, ◌&&◌, ◌||◌, List, map, eqb}
use Rattle.smtlib.specs.Theory.{bvneg}
use Rattle.smtlib.specs.Overflow.{bvnego}
use Rattle.arena.specs.Values.{Ty, tbool, tbv, topt, tset, trec, Value, bool, bits, vnone, vsome, VFields, fnil, fcons, field_v, as_bits, as_rec, value_or}
use Rattle.factory.specs.Meanings.{means15, means20, means53, means56, is_none_v, any_none_v, lifted}

-- Not
abbrev pub means70 : Value → Value
means70 v = vsome (means20 v)

-- Neg: none on overflow
abbrev pub means71 : Value → Value
means71 v = cond (bvnego 64 (as_bits v)) vnone (vsome (bits (bvneg 64 (as_bits v))))

-- IsEmpty
abbrev pub means72 : Value → Value
means72 v = vsome (means53 v)

-- what is in some
unfoldable pub inner_v : Value → Value
inner_v v = value_or vnone v

-- the element type of an Option
unfoldable pub inner_ty : Ty → Ty
inner_ty tbool = tbool
inner_ty (tbv w) = tbv w
inner_ty (topt t) = t
inner_ty (tset t) = tset t
inner_ty (trec fs) = trec fs

-- record: none if any listed field is none, a replaced one too; else the record of the inner values
abbrev pub means73 : List ℕ → List Value → Value
means73 ks os = cond (any_none_v os) vnone (vsome (means15 ks (map inner_v os)))

-- the attribute is there
unfoldable pub has_v : ℕ → VFields → Bool
has_v k fnil = false
has_v k (fcons j v fs) = eqb j k || has_v k fs

-- has_attr: it is there and not none
abbrev pub means74 : ℕ → Value → Value
means74 k v = vsome (bool (has_v k (as_rec v) && not (is_none_v (field_v k (as_rec v)))))

-- get_attr: t the field's type
abbrev pub means75 : Ty → ℕ → Value → Value
means75 t k v = lifted t (means56 k v)
