-- Types and 'checked term constructors'. A step takes the arena and answers the arena afterwards with a position in it; whether that fits
-- below the end of the lent cells is asked of the mark afterwards, since an arena only grows.
use Rattle.std.specs.Prelude.{ℕ, ◌+◌, Bool, cond, List, [], ◌∷◌}
use Rattle.arena.specs.Lists.{sorted, fields_of}
use Rattle.arena.specs.Nodes.{F, T, node, Nodes, type_at, field_types, put, Out, ◌⨟◌}

-- the literal of a bool: nothing is added
abbrev pub bool_at : Bool → ℕ
bool_at b = cond b T F

-- ---- types

abbrev pub bitvec_type : Nodes → ℕ → Out
bitvec_type a w = put a (node 2 0 w [])

abbrev pub option_type : Nodes → ℕ → Out
option_type a t = put a (node 3 0 0 (t ∷ []))

abbrev pub set_type : Nodes → ℕ → Out
set_type a t = put a (node 4 0 0 (t ∷ []))

abbrev pub record_type : Nodes → List ℕ → Out
record_type a fs = put a (node 5 0 0 fs)

-- ---- makers

-- a bitvector literal of the Bitvec type t
abbrev pub bitvec_lit : Nodes → ℕ → ℕ → Out
bitvec_lit a t v = put a (node 17 t v [])

abbrev pub variable : Nodes → ℕ → ℕ → Out
variable a id t = put a (node 22 t id [])

unfoldable pub none_of : Nodes → ℕ → Out
none_of a t = option_type a t ⨟ λ b o. put b (node 18 o 0 [])

unfoldable pub some_of : Nodes → ℕ → Out
some_of a t = option_type a (type_at a t) ⨟ λ b o. put b (node 19 o 0 (t ∷ []))

-- members by position, without duplicates
unfoldable pub set_of : Nodes → ℕ → List ℕ → Out
set_of a t ts = set_type a t ⨟ λ b s. put b (node 20 s 0 (sorted ts))

-- fields by attribute; of equal ones the last wins
unfoldable pub record_of : Nodes → List ℕ → Out
record_of a ats = let fs = fields_of [] ats in record_type a (field_types a fs) ⨟ λ b t. put b (node 21 t 0 fs)

-- Term::App of an operation with no parameter
abbrev pub app : Nodes → ℕ → ℕ → List ℕ → Out
app a op t ms = put a (node (100 + op) t 0 ms)
