-- What the tests of refusals 2 to 8 are told: how an operation lists its operands, and what the tests before have shown.
use Rattle.std.specs.Prelude.{◌≡◌, ℕ, ◌≤◌, Bool, true, false, List, ◌∷◌, length, replicate}
use Rattle.arena.specs.Lists.{all}
use Rattle.arena.specs.Nodes.{Nodes}
use Rattle.arena.specs.WellFormed.{is_term}
use Rattle.instruction.specs.Instruction.{Instr}
use Rattle.table.specs.Table.{Sort, ty, tm, Shape, fixed, pairs, run, row, not_of, not_kind}
use Rattle.table.specs.Call.{operands_ok, refusal}
use Rattle.table.specs.declared.Form.{Form}
use Rattle.table.specs.declared.Form.TheVariants.{Fixed, Pairs, Run}
use Rattle.table.specs.declared.Named.{Named}
use Rattle.table.specs.declared.Named.TheVariants as named

-- ---- how operands are listed

-- a type, or a term
abbrev pub sort : Bool → Sort
sort true = ty
sort false = tm

-- a type or none, and then n terms
abbrev pub sorts : Bool → ℕ → List Sort
sorts true n = ty ∷ replicate n tm
sorts false n = replicate n tm

-- the table's word for a form
abbrev pub shape_of : Form → Shape
shape_of (Fixed b n) = fixed (sorts b n)
shape_of (Pairs b) = pairs (sort b)
shape_of (Run b n) = run (sorts b n)

-- ---- what the tests before have shown

-- the operands passed test 4
abbrev pub Suited : Nodes → ℕ → List ℕ → Type 0
Suited a o xs = operands_ok a (row o).shape xs ≡ true

-- n or more, all of them terms
pub record Terms (a : Nodes) (n : ℕ) (xs : List ℕ) : Type 0 where
  pub many : n ≤ length xs
  pub each : all (is_term a) xs ≡ true

-- ---- single tests

-- the term x is not of the type named
abbrev pub misfit : Nodes → Named → ℕ → Bool
misfit a (named.Type t) x = not_of a t x
misfit a (named.Kind k) x = not_kind k a x

abbrev pub instr : ℕ → ℕ → ℕ → List ℕ → Instr
instr o p n xs = record { op = o; par = p; count = n; operands = xs }

abbrev pub listed : ℕ → ℕ → List ℕ → Instr
listed o p xs = instr o p (length xs) xs

-- none of the refusals 2 to 8 applies
abbrev pub Passes : Nodes → ℕ → ℕ → List ℕ → Type 0
Passes a o p xs = refusal a (listed o p xs) ≡ 0

-- as many operands as the count says, up to what an instruction's array holds
abbrev pub Held : ℕ → List ℕ → Type 0
Held n xs = n ≤ 257 → length xs ≡ n
