-- compiler.rs for records: `compile_app1`, `compile_record`, `compile_has_attr`, `compile_get_attr`. Its terms are unwrapped already.
use Rattle.std.specs.Prelude.{ℕ, Bool, true, false, cond, List, [], ◌∷◌}
use Rattle.std.proofs.Math.Option.{none, some}
use Rattle.arena.specs.Lists.{odds, field, field_d}
use Rattle.arena.specs.Nodes.{F, T, Nodes, type_at, mem_at, Out, out, ◌⨟◌}
use Rattle.factory.specs.Makers.{some_of, record_of}
use Rattle.factory.specs.Core.{not_t}
use Rattle.factory.specs.Bitvectors.{bvneg_t, bvnego_t}
use Rattle.factory.specs.SetSteps.{set_is_empty, option_get, record_get}
use Rattle.factory.specs.Helpers.{is_some, if_false, is_option, if_all_some}

-- ---- compile_app1

unfoldable pub compiled_not : Nodes → ℕ → Out
compiled_not a t = not_t a t ⨟ some_of

-- the negation, and the choice
unfoldable pub neg_unless : Nodes → ℕ → ℕ → Out
neg_unless a g t = bvneg_t a t ⨟ λ b n. if_false b g n

-- whether it overflows comes first
unfoldable pub compiled_neg : Nodes → ℕ → Out
compiled_neg a t = bvnego_t a t ⨟ λ b g. neg_unless b g t

unfoldable pub compiled_is_empty : Nodes → ℕ → Out
compiled_is_empty a t = set_is_empty a t ⨟ some_of

-- ---- compile_record

-- option_get of every listed field, also of one that a later field replaces: the arena afterwards, and the fields with the inner terms
unfoldable pub gotten : Nodes → List ℕ → Nodes
gotten a [] = a
gotten a (x ∷ []) = a
gotten a (x ∷ y ∷ r) = gotten (option_get a y).arena r

unfoldable pub inner : Nodes → List ℕ → List ℕ
inner a [] = []
inner a (x ∷ []) = []
inner a (x ∷ y ∷ r) = let o = option_get a y in x ∷ o.at ∷ inner o.arena r

-- Some of the record r, if all listed options are
unfoldable pub if_all_given : Nodes → List ℕ → ℕ → Out
if_all_given a gs r = some_of a r ⨟ λ b s. if_all_some b gs s

-- the record of the fields ats
unfoldable pub record_if_all : Nodes → List ℕ → List ℕ → Out
record_if_all a gs ats = record_of a ats ⨟ λ b r. if_all_given b gs r

unfoldable pub compiled_record : Nodes → List ℕ → Out
compiled_record a ats = record_if_all (gotten a ats) (odds ats) (inner a ats)

-- ---- compile_has_attr and compile_get_attr

-- the field types of the record t
abbrev pub fields_at : Nodes → ℕ → List ℕ
fields_at a t = mem_at a (type_at a t)

-- the attribute k is among the fields
unfoldable pub has_field : List ℕ → ℕ → Bool
has_field fs k = elim (field fs k) [ none ↦ false | some y ↦ true ]

-- an optional field is there if it is some
unfoldable pub has_some : Nodes → ℕ → Out
has_some a p = is_some a p ⨟ some_of

unfoldable pub compiled_has_attr : Nodes → ℕ → ℕ → Out
compiled_has_attr a k t =
    elim (field (fields_at a t) k) [ none ↦ some_of a F | some y ↦ cond (is_option a y) (record_get a k t ⨟ has_some) (some_of a T) ]

-- put in some unless it is an option
unfoldable pub optioned : Bool → Nodes → ℕ → Out
optioned opt a p = cond opt (out a p) (some_of a p)

unfoldable pub compiled_get_attr : Nodes → ℕ → ℕ → Out
compiled_get_attr a k t = record_get a k t ⨟ optioned (is_option a (field_d (fields_at a t) k))
