-- The operations as one table, in the order of document 01: how many operands of what sort, the tests of refusals 5 to 8, and what is built.
use Rattle.std.specs.Prelude.{ℕ, ◌+◌, ◌^◌, Bool, true, false, not, ◌&&◌, ◌||◌, List, [], ◌∷◌, get_or, drop, eqb, leb, ltb}
use Rattle.std.proofs.Math.Option.{Option, none, some}
use Rattle.arena.specs.Lists.{within, all, any, evens, odds, field, rising}
use Rattle.arena.specs.Nodes.{node, Nodes, type_at, par_at, mem_at, elem_at, width_at, put, Out, out}
use Rattle.arena.specs.Walks.{set_free}
use Rattle.arena.specs.WellFormed.{small, kind_is}
use Rattle.factory.specs.Makers.{bool_at, bitvec_type, option_type, set_type, record_type, bitvec_lit, variable, none_of, some_of, set_of, record_of}
use Rattle.factory.specs.Core.{not_t, and_t, or_t, implies, eq_t, ite_t, uninterpreted}
use Rattle.factory.specs.Bitvectors.{bvneg_t, bvapp_t, bvcmp_t, bvnego_t, bvso_t, zero_extend_t}
use Rattle.factory.specs.SetSteps.{set_member, set_subset, set_inter, set_is_empty, set_intersects, option_get, record_get}
use Rattle.factory.specs.Helpers.{is_none, is_some, if_false, if_true, if_some, any_none, if_all_some}
use Rattle.compiler.specs.Compiler.{compiled_not, compiled_neg, compiled_is_empty, compiled_record, compiled_has_attr, compiled_get_attr}

-- an operand is a type or a term
pub data Sort : Type 0 where
  ty tm : Sort

-- the operands: so many; pairs of an attribute and one of the sort, up to 64; some, and then up to 256 terms
pub data Shape : Type 0 where
  fixed : List Sort → Shape
  pairs : Sort → Shape
  run : List Sort → Shape

pub record Row : Type 0 where
  pub number : ℕ
  pub shape : Shape
  pub takes : Bool
  pub five : Nodes → List ℕ → Bool
  pub six : Nodes → ℕ → List ℕ → Bool
  pub seven : Nodes → ℕ → List ℕ → Bool
  pub eight : Nodes → ℕ → List ℕ → Bool
  pub build : Nodes → ℕ → List ℕ → Out

-- ---- operands by place

abbrev pub #0 : List ℕ → ℕ
#0 xs = get_or xs 0 0

abbrev pub #1 : List ℕ → ℕ
#1 xs = get_or xs 1 0

abbrev pub #2 : List ℕ → ℕ
#2 xs = get_or xs 2 0

-- those after the first
abbrev pub rest : List ℕ → List ℕ
rest xs = drop 1 xs

abbrev pub one : (Nodes → ℕ → Out) → Nodes → List ℕ → Out
one f a xs = f a (#0 xs)

abbrev pub two : (Nodes → ℕ → ℕ → Out) → Nodes → List ℕ → Out
two f a xs = f a (#0 xs) (#1 xs)

abbrev pub no_operand : Shape
no_operand = fixed []

abbrev pub one_type : Shape
one_type = fixed (ty ∷ [])

abbrev pub one_term : Shape
one_term = fixed (tm ∷ [])

abbrev pub two_terms : Shape
two_terms = fixed (tm ∷ tm ∷ [])

-- ---- refusal 5: an operand's type is not the one named

abbrev pub free : Nodes → List ℕ → Bool
free a xs = false

-- the term x is not of the type at t
abbrev pub not_of : Nodes → ℕ → ℕ → Bool
not_of a t x = not (eqb (type_at a x) t)

-- its type is not of kind k
abbrev pub not_kind : ℕ → Nodes → ℕ → Bool
not_kind k a x = not (kind_is a (type_at a x) k)

abbrev pub not_bools : Nodes → List ℕ → Bool
not_bools a xs = any (not_of a 0) xs

-- the first is not of kind k
abbrev pub first_not : ℕ → Nodes → List ℕ → Bool
first_not k a xs = not_kind k a (#0 xs)

-- the first two are not of one type
abbrev pub two_types : Nodes → List ℕ → Bool
two_types a xs = not_of a (type_at a (#0 xs)) (#1 xs)

-- not all of one type of kind k
abbrev pub not_alike : ℕ → Nodes → List ℕ → Bool
not_alike k a xs = first_not k a xs || any (not_of a (type_at a (#0 xs))) xs

-- ---- refusals 6 to 8

abbrev pub never : Nodes → ℕ → List ℕ → Bool
never a p xs = false

-- 7: an attribute or id too large
abbrev pub large : Nodes → ℕ → List ℕ → Bool
large a p xs = not (small p)

abbrev pub large_attributes : Nodes → ℕ → List ℕ → Bool
large_attributes a p xs = not (all small (evens xs))

-- 8: the first operand's type has no attribute p
abbrev pub absent_attribute : Nodes → ℕ → List ℕ → Bool
absent_attribute a p xs = elim (field (mem_at a (type_at a (#0 xs))) p) [ none ↦ true | some t ↦ false ]

-- ---- rows

-- no parameter, and no test but 5
abbrev pub plain : ℕ → Shape → (Nodes → List ℕ → Bool) → (Nodes → List ℕ → Out) → Row
plain o s f b =
    record { number = o; shape = s; takes = false; five = f; six = never; seven = never; eight = never; build = λ a p xs. b a xs }

-- a parameter
abbrev pub with_par : ℕ → Shape → (Nodes → List ℕ → Bool) → (Nodes → ℕ → List ℕ → Bool) → (Nodes → ℕ → List ℕ → Bool) → (Nodes → ℕ → List ℕ → Bool) → (Nodes → ℕ → List ℕ → Out) → Row
with_par o s f six seven eight b =
    record { number = o; shape = s; takes = true; five = f; six = six; seven = seven; eight = eight; build = b }

-- attributes among the operands
abbrev pub listed : ℕ → Sort → (Nodes → List ℕ → Bool) → (Nodes → ℕ → List ℕ → Bool) → (Nodes → List ℕ → Out) → Row
listed o s f seven b =
    record { number = o; shape = pairs s; takes = false; five = f; six = never; seven = seven; eight = never; build = λ a p xs. b a xs }

abbrev pub bvapp_row : ℕ → Row
bvapp_row o = plain o two_terms (not_alike 2) (two (bvapp_t o))

abbrev pub bvcmp_row : ℕ → Row
bvcmp_row o = plain o two_terms (not_alike 2) (two (bvcmp_t o))

abbrev pub bvso_row : ℕ → Row
bvso_row o = plain o two_terms (not_alike 2) (two (bvso_t o))

unfoldable pub table : List Row
table =
    -- types
    plain 1 no_operand free (λ a xs. put a (node 1 0 0 []))
    ∷ with_par 2 no_operand free (λ a p xs. not (within 1 64 p)) never never (λ a p xs. bitvec_type a p)
    ∷ plain 3 one_type free (one option_type)
    ∷ plain 4 one_type (λ a xs. not (set_free a (#0 xs))) (one set_type)
    ∷ listed 5 ty free (λ a p xs. not (all small (evens xs) && rising (evens xs))) record_type
    -- makers
    ∷ with_par 10 no_operand free never (λ a p xs. ltb 1 p) never (λ a p xs. out a (bool_at (eqb p 1)))
    ∷ with_par 11 one_type (λ a xs. not (kind_is a (#0 xs) 2)) never (λ a p xs. leb (2 ^ par_at a (#0 xs)) p) never (λ a p xs. bitvec_lit a (#0 xs) p)
    ∷ plain 12 one_type free (one none_of)
    ∷ plain 13 one_term free (one some_of)
    ∷ plain 14 (run (ty ∷ [])) (λ a xs. not (set_free a (#0 xs)) || any (not_of a (#0 xs)) (rest xs)) (λ a xs. set_of a (#0 xs) (rest xs))
    ∷ listed 15 tm free large_attributes record_of
    ∷ with_par 16 one_type free never large never (λ a p xs. variable a p (#0 xs))
    -- core
    ∷ plain 20 one_term not_bools (one not_t)
    ∷ plain 21 two_terms not_bools (two and_t)
    ∷ plain 22 two_terms not_bools (two or_t)
    ∷ plain 23 two_terms not_bools (two implies)
    ∷ plain 24 two_terms two_types (two eq_t)
    ∷ plain 25 (fixed (tm ∷ tm ∷ tm ∷ [])) (λ a xs. not_of a 0 (#0 xs) || two_types a (rest xs)) (λ a xs. ite_t a (#0 xs) (#1 xs) (#2 xs))
    ∷ with_par 26 (fixed (ty ∷ tm ∷ [])) free never large never (λ a p xs. uninterpreted a p (#0 xs) (#1 xs))
    -- bitvectors
    ∷ plain 30 one_term (first_not 2) (one bvneg_t)
    ∷ bvapp_row 31 ∷ bvapp_row 32 ∷ bvapp_row 33 ∷ bvapp_row 34 ∷ bvapp_row 35 ∷ bvapp_row 36 ∷ bvapp_row 37 ∷ bvapp_row 38 ∷ bvapp_row 39 ∷ bvapp_row 40
    ∷ bvcmp_row 41 ∷ bvcmp_row 42 ∷ bvcmp_row 43 ∷ bvcmp_row 44
    ∷ plain 45 one_term (first_not 2) (one bvnego_t)
    ∷ bvso_row 46 ∷ bvso_row 47 ∷ bvso_row 48
    ∷ with_par 49 one_term (first_not 2) (λ a p xs. ltb 64 (width_at a (#0 xs) + p)) never never (λ a p xs. zero_extend_t a p (#0 xs))
    -- sets, options and records
    ∷ plain 50 two_terms (λ a xs. not_kind 4 a (#1 xs) || not_of a (elem_at a (#1 xs)) (#0 xs)) (two set_member)
    ∷ plain 51 two_terms (not_alike 4) (two set_subset)
    ∷ plain 52 two_terms (not_alike 4) (two set_inter)
    ∷ plain 53 one_term (first_not 4) (one set_is_empty)
    ∷ plain 54 two_terms (not_alike 4) (two set_intersects)
    ∷ plain 55 one_term (first_not 3) (one option_get)
    ∷ with_par 56 one_term (first_not 5) never large absent_attribute (λ a p xs. record_get a p (#0 xs))
    -- helpers
    ∷ plain 60 one_term (first_not 3) (one is_none)
    ∷ plain 61 one_term (first_not 3) (one is_some)
    ∷ plain 62 two_terms (λ a xs. not_of a 0 (#0 xs)) (two if_false)
    ∷ plain 63 two_terms (λ a xs. not_of a 0 (#0 xs)) (two if_true)
    ∷ plain 64 two_terms (first_not 3) (two if_some)
    ∷ plain 65 (run []) (λ a xs. any (not_kind 3 a) xs) any_none
    ∷ plain 66 (run (tm ∷ [])) (λ a xs. any (not_kind 3 a) (rest xs)) (λ a xs. if_all_some a (rest xs) (#0 xs))
    -- compiled
    ∷ plain 70 one_term not_bools (one compiled_not)
    ∷ plain 71 one_term (λ a xs. first_not 2 a xs || not (eqb (width_at a (#0 xs)) 64)) (one compiled_neg)
    ∷ plain 72 one_term (first_not 4) (one compiled_is_empty)
    ∷ listed 73 tm (λ a xs. any (not_kind 3 a) (odds xs)) large_attributes compiled_record
    ∷ with_par 74 one_term (first_not 5) never large never (λ a p xs. compiled_has_attr a p (#0 xs))
    ∷ with_par 75 one_term (first_not 5) never large absent_attribute (λ a p xs. compiled_get_attr a p (#0 xs))
    ∷ []

unfoldable pub row_of : List Row → ℕ → Option Row
row_of [] o = none
row_of (r ∷ rs) o = elim (eqb r.number o) [ true ↦ some r | false ↦ row_of rs o ]

-- the operation is in the table
unfoldable pub known : ℕ → Bool
known o = elim (row_of table o) [ none ↦ false | some r ↦ true ]

-- its row; of an unknown operation one that is never looked at
unfoldable pub row : ℕ → Row
row o = elim (row_of table o) [ none ↦ plain 0 no_operand free (λ a xs. out a 0) | some r ↦ r ]
