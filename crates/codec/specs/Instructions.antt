-- An instruction in bytes: operation, parameter, count, then that many operands, 257 at most, each a number.
use Rattle.std.specs.Prelude.{ℕ, zero, suc, ◌+◌, ◌-◌, ◌^◌, ◌≤◌, ◌<◌, ◌≡◌, cond, Option, Some, None, List, [], ◌∷◌, ◌++◌, leb, length, get_or, drop, replicate}
use Rattle.instruction.specs.Instruction.{Instr, held}
use Rattle.codec.specs.Numbers.{groups, number_at}
use Rattle.codec.specs.declared.Number.{Number}
use Rattle.codec.specs.declared.Operands.{Operands}
use Rattle.codec.specs.declared.Decoded.{Decoded}

-- numbers, and the place behind them, or a bad one among them
pub data Listing : Type 0 where
  listed : List ℕ → ℕ → Listing
  broken : Listing

-- one more in front
unfoldable pub onto : ℕ → Listing → Listing
onto n (listed ns next) = listed (n ∷ ns) next
onto n broken = broken

-- a number, and the listing from the place behind it
unfoldable pub first : Option Number → (ℕ → Listing) → Listing
first (Some n) rest = onto n.value (rest n.next)
first None rest = broken

-- k numbers from a place on
unfoldable pub numbers_at : ℕ → List ℕ → ℕ → Listing
numbers_at zero bytes at = listed [] at
numbers_at (suc k) bytes at = first (number_at bytes at) (numbers_at k bytes)

-- a listing as the struct that the code returns: zeros fill the array up
abbrev pub operands_of : Listing → Option Operands
operands_of (listed ns next) = Some (record { next = next; values = ns ++ replicate (257 - length ns) 0 })
operands_of broken = None

-- an instruction, and the place behind it, or a bad one
pub data Reading : Type 0 where
  whole : Instr → ℕ → Reading
  bad : Reading

-- a number, and what the number and the place behind it give
unfoldable pub after : Option Number → (ℕ → ℕ → Reading) → Reading
after (Some n) rest = rest n.value n.next
after None rest = bad

-- the operands of an instruction
unfoldable pub operands : ℕ → ℕ → ℕ → Listing → Reading
operands op par count (listed ns next) = whole (record { op = op; par = par; count = count; operands = ns }) next
operands op par count broken = bad

-- the instruction at a place of the bytes
unfoldable pub instruction_at : List ℕ → ℕ → Reading
instruction_at bytes at =
    after (number_at bytes at) λ op a.
    after (number_at bytes a) λ par b.
    after (number_at bytes b) λ count c.
    cond (leb count 257) (operands op par count (numbers_at count bytes c)) bad

-- a reading as the struct that the code returns
abbrev pub decoded_of : Reading → Option Decoded
decoded_of (whole i next) = Some (record { next = next; instruction = held i })
decoded_of bad = None

-- the encoding of numbers, one behind the other
unfoldable pub all_groups : List ℕ → List ℕ
all_groups [] = []
all_groups (n ∷ ns) = groups n ++ all_groups ns

-- the numbers of an instruction
abbrev pub numbers : Instr → List ℕ
numbers i = i.op ∷ i.par ∷ i.count ∷ i.operands

-- decoding said by the encoding: the groups of numbers below 2 ^ 64 stand at a place, and `next` is the place behind them
pub record BeginAll (bytes : List ℕ) (at : ℕ) (ns : List ℕ) (next : ℕ) : Type 0 where
  pub small : (k : ℕ) → get_or ns k 0 < 2 ^ 64
  pub stands : drop at bytes ≡ all_groups ns ++ drop next bytes
  pub behind : next ≡ at + length (all_groups ns)

-- and so for an instruction
pub record Encodes (bytes : List ℕ) (at : ℕ) (i : Instr) (next : ℕ) : Type 0 where
  pub begin : BeginAll bytes at (numbers i) next
  pub counted : length i.operands ≡ i.count
  pub most : i.count ≤ 257
