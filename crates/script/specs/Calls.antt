-- The same said without places: instructions one behind the other, and a call for each.
use Rattle.std.specs.Prelude.{ℕ, ◌^◌, ◌≤◌, ◌<◌, ◌≡◌, List, [], ◌∷◌, ◌++◌, length, get_or}
use Rattle.instruction.specs.Instruction.{Instr}
use Rattle.codec.specs.Instructions.{all_groups, numbers}
use Rattle.answers.specs.Lines.{refused_line}
use Rattle.table.specs.Call.{call_on}
use Rattle.table.specs.Answers.{mark_after}
use Rattle.answers.specs.Replies.{line_of}

-- an instruction that bytes can say
pub record Sayable (i : Instr) : Type 0 where
  pub small : (k : ℕ) → get_or (numbers i) k 0 < 2 ^ 64
  pub counted : length i.operands ≡ i.count
  pub most : i.count ≤ 257

unfoldable pub AllSayable : List Instr → Type 0
AllSayable [] = Unit {0}
AllSayable (i ∷ is) = Sayable i × AllSayable is

-- the bytes of instructions
unfoldable pub said : List Instr → List ℕ
said [] = []
said (i ∷ is) = all_groups (numbers i) ++ said is

-- a line for each: the one call's answer on the cells and the mark left before it
unfoldable pub calls : List ℕ → ℕ → List Instr → List ℕ
calls c m [] = []
calls c m (i ∷ is) = let l = call_on c m i in let r = calls l.cells (mark_after m l.reply) is in line_of l.reply ++ r

-- bytes behind them with which no instruction starts
unfoldable pub last_line : List ℕ → List ℕ
last_line [] = []
last_line (b ∷ bs) = refused_line 10
