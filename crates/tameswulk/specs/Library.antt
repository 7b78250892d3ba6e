-- What the functions give that a program in C or Rust calls: document 01's number, what is told beside it, and every cell.
use Rattle.std.specs.Prelude.{ℕ, ◌≤◌, ◌≡◌, List, length, set}
use Rattle.instruction.specs.Instruction.{Instr}
use Rattle.table.specs.Call.{Reply, call_on}
use Rattle.table.specs.Answers.{told}
use Rattle.script.specs.Script.{lent}
use Rattle.script.specs.Running.{room, Ran}

-- two numbers in front, as far as the list has room for them; the others as they were
abbrev pub noted : List ℕ → ℕ → ℕ → List ℕ
noted xs p m = set (set xs 0 p) 1 m

-- a reply to a call with the mark m: the number, and beside it the position and the mark
pub record Tells (xs : List ℕ) (m : ℕ) (v : Reply) (r : ℕ) (xs' : List ℕ) : Type 0 where
  pub number : r ≡ (told m v).number
  pub beside : xs' ≡ noted xs (told m v).position (told m v).mark

-- the one call on the cells c and the mark m, with xs lent for what is told
abbrev pub Gives : List ℕ → ℕ → Instr → List ℕ → ℕ → List ℕ → List ℕ → Type 0
Gives c m i xs r c' xs' = Tells xs m (call_on c m i).reply r xs' × (c' ≡ (call_on c m i).cells)

-- what a script is lent: document 01's cells, and bytes that hold every output
abbrev pub Lends : List ℕ → List ℕ → Type 0
Lends c out = (length c ≡ lent) × (room ≤ length out)

-- above every number of bytes
abbrev pub unfit : ℕ
unfit = 18446744073709551615

-- a script's answers; where something else is lent, a number that says so, and nothing changes
pub record Scripted (bytes c out : List ℕ) (r : ℕ) (c' out' : List ℕ) : Type 0 where
  pub lends : Lends c out → Ran bytes c out r c' out'
  pub other : (Lends c out → ⊥) → (r ≡ unfit) × (c' ≡ c) × (out' ≡ out)
