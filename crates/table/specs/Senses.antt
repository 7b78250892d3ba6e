-- Document 01's 'Result types' and 'Meanings' as one table, in the order of the numbers: of what type the built term is, and what it means.
use Rattle.std.specs.Prelude.{ℕ, ◌+◌, Bool, true, false, List, [], ◌∷◌, map, eqb}
use Rattle.std.proofs.Math.Option.{Option, none, some}
use Rattle.arena.specs.Lists.{evens, odds, field_d}
use Rattle.arena.specs.Nodes.{Nodes, kind_at, type_at, mem_at, elem_at, width_at}
use Rattle.arena.specs.Values.{Ty, tbool, tbv, topt, tset, Value}
use Rattle.arena.specs.Meaning.{ty_of, ty_at, Interp, meaning}
use Rattle.factory.specs.Meanings.{record_ty, optional, means10, means11, means12, means13, means14, means15, means16, means20, means21, means22, means23, means24, means25, means26, means30, means_app, means_cmp, means45, means_so, means49, means50, means51, means52, means53, means54, means55, means56, means60, means61, means62, means63, means64, means65, means66}
use Rattle.compiler.specs.Meanings.{inner_ty, means70, means71, means72, means73, means74, means75}
use Rattle.table.specs.Table.{#0, #1, #2, rest}

pub record Sense : Type 0 where
  pub number : ℕ
  -- from the arena, the parameter and the operands
  pub type : Nodes → ℕ → List ℕ → Ty
  pub means : Interp → Nodes → ℕ → List ℕ → Value
  -- literal operands may give no literal
  pub opens : Nodes → List ℕ → Bool

abbrev pub sense : ℕ → (Nodes → ℕ → List ℕ → Ty) → (Interp → Nodes → ℕ → List ℕ → Value) → Sense
sense o t v = record { number = o; type = t; means = v; opens = λ a xs. false }

-- ---- types

abbrev pub is_bool : Nodes → ℕ → List ℕ → Ty
is_bool a p xs = tbool

abbrev pub optional_bool : Nodes → ℕ → List ℕ → Ty
optional_bool a p xs = topt tbool

-- the type given
abbrev pub given : Nodes → ℕ → List ℕ → Ty
given a p xs = ty_of a (#0 xs)

-- the first operand's, the second's
abbrev pub first : Nodes → ℕ → List ℕ → Ty
first a p xs = ty_at a (#0 xs)

abbrev pub second : Nodes → ℕ → List ℕ → Ty
second a p xs = ty_at a (#1 xs)

-- the element's of an option
abbrev pub element : Nodes → ℕ → List ℕ → Ty
element a p xs = ty_of a (elem_at a (#0 xs))

-- the field's
abbrev pub field_ty : Nodes → ℕ → List ℕ → Ty
field_ty a p xs = ty_of a (field_d (mem_at a (type_at a (#0 xs))) p)

-- ---- meanings of the operands

abbrev pub of1 : (Value → Value) → Interp → Nodes → ℕ → List ℕ → Value
of1 f I a p xs = f (meaning I a (#0 xs))

abbrev pub of2 : (Value → Value → Value) → Interp → Nodes → ℕ → List ℕ → Value
of2 f I a p xs = f (meaning I a (#0 xs)) (meaning I a (#1 xs))

-- the same with the first operand's width
abbrev pub wide1 : (ℕ → Value → Value) → Interp → Nodes → ℕ → List ℕ → Value
wide1 f I a p xs = f (width_at a (#0 xs)) (meaning I a (#0 xs))

abbrev pub wide2 : (ℕ → Value → Value → Value) → Interp → Nodes → ℕ → List ℕ → Value
wide2 f I a p xs = f (width_at a (#0 xs)) (meaning I a (#0 xs)) (meaning I a (#1 xs))

abbrev pub app_sense : ℕ → Sense
app_sense o = sense o first (wide2 (means_app o))

abbrev pub cmp_sense : ℕ → Sense
cmp_sense o = sense o is_bool (wide2 (means_cmp o))

abbrev pub so_sense : ℕ → Sense
so_sense o = sense o is_bool (wide2 (means_so o))

unfoldable pub senses : List Sense
senses =
    -- makers
    sense 10 is_bool (λ I a p xs. means10 (eqb p 1))
    ∷ sense 11 given (λ I a p xs. means11 p)
    ∷ sense 12 (λ a p xs. topt (given a p xs)) (λ I a p xs. means12)
    ∷ sense 13 (λ a p xs. topt (first a p xs)) (of1 means13)
    ∷ sense 14 (λ a p xs. tset (given a p xs)) (λ I a p xs. means14 (map (meaning I a) (rest xs)))
    ∷ sense 15 (λ a p xs. record_ty (ty_at a) xs) (λ I a p xs. means15 (evens xs) (map (meaning I a) (odds xs)))
    ∷ record { number = 16; type = given; means = λ I a p xs. means16 I p (given a p xs); opens = λ a xs. true }
    -- core
    ∷ sense 20 is_bool (of1 means20)
    ∷ sense 21 is_bool (of2 means21)
    ∷ sense 22 is_bool (of2 means22)
    ∷ sense 23 is_bool (of2 means23)
    ∷ sense 24 is_bool (of2 means24)
    ∷ sense 25 second (λ I a p xs. means25 (meaning I a (#0 xs)) (meaning I a (#1 xs)) (meaning I a (#2 xs)))
    ∷ record { number = 26; type = given; means = λ I a p xs. means26 I p (second a p xs) (given a p xs) (meaning I a (#1 xs)); opens = λ a xs. true }
    -- bitvectors
    ∷ sense 30 first (wide1 means30)
    ∷ app_sense 31 ∷ app_sense 32 ∷ app_sense 33 ∷ app_sense 34 ∷ app_sense 35 ∷ app_sense 36 ∷ app_sense 37 ∷ app_sense 38 ∷ app_sense 39 ∷ app_sense 40
    ∷ cmp_sense 41 ∷ cmp_sense 42 ∷ cmp_sense 43 ∷ cmp_sense 44
    ∷ sense 45 is_bool (wide1 means45)
    ∷ so_sense 46 ∷ so_sense 47 ∷ so_sense 48
    ∷ sense 49 (λ a p xs. tbv (width_at a (#0 xs) + p)) (λ I a p xs. means49 (width_at a (#0 xs)) p (meaning I a (#0 xs)))
    -- sets, options and records
    ∷ sense 50 is_bool (of2 means50)
    ∷ sense 51 is_bool (of2 means51)
    ∷ sense 52 first (of2 means52)
    ∷ sense 53 is_bool (of1 means53)
    ∷ sense 54 is_bool (of2 means54)
    ∷ record { number = 55; type = element; means = λ I a p xs. means55 I (element a p xs) (meaning I a (#0 xs)); opens = λ a xs. eqb (kind_at a (#0 xs)) 18 }
    ∷ sense 56 field_ty (λ I a p xs. means56 p (meaning I a (#0 xs)))
    -- helpers
    ∷ sense 60 is_bool (of1 means60)
    ∷ sense 61 is_bool (of1 means61)
    ∷ sense 62 (λ a p xs. topt (second a p xs)) (of2 means62)
    ∷ sense 63 (λ a p xs. topt (second a p xs)) (of2 means63)
    ∷ sense 64 (λ a p xs. optional (second a p xs)) (λ I a p xs. means64 (second a p xs) (meaning I a (#0 xs)) (meaning I a (#1 xs)))
    ∷ sense 65 is_bool (λ I a p xs. means65 (map (meaning I a) xs))
    ∷ sense 66 (λ a p xs. optional (first a p xs)) (λ I a p xs. means66 (first a p xs) (map (meaning I a) (rest xs)) (meaning I a (#0 xs)))
    -- compiled
    ∷ sense 70 optional_bool (of1 means70)
    ∷ sense 71 (λ a p xs. topt (tbv 64)) (of1 means71)
    ∷ sense 72 optional_bool (of1 means72)
    ∷ sense 73 (λ a p xs. topt (record_ty (λ x. inner_ty (ty_at a x)) xs)) (λ I a p xs. means73 (evens xs) (map (meaning I a) (odds xs)))
    ∷ sense 74 optional_bool (λ I a p xs. means74 p (meaning I a (#0 xs)))
    ∷ sense 75 (λ a p xs. optional (field_ty a p xs)) (λ I a p xs. means75 (field_ty a p xs) p (meaning I a (#0 xs)))
    ∷ []

unfoldable pub sense_of : List Sense → ℕ → Option Sense
sense_of [] o = none
sense_of (s ∷ ss) o = elim (eqb s.number o) [ true ↦ some s | false ↦ sense_of ss o ]
