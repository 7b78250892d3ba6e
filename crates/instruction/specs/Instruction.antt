-- An instruction: an operation, a parameter, and operands after their count.
use Rattle.std.specs.Prelude.{ℕ, ◌-◌, List, [], ◌++◌, length, take, replicate}
use Rattle.instruction.specs.declared.Instruction.{Instruction}

-- the count stands beside the operands, since it decides where it says more than there is room for
pub record Instr : Type 0 where
  pub op : ℕ
  pub par : ℕ
  pub count : ℕ
  pub operands : List ℕ

-- what the struct stands for: as many numbers of its array as its count says
abbrev pub instr_of : Instruction → Instr
instr_of i = record { op = i.operation; par = i.parameter; count = i.count; operands = take i.count i.operands }

-- the struct that holds an instruction: zeros fill the array up
abbrev pub held : Instr → Instruction
held i =
    record {
      operation = i.op;
      parameter = i.par;
      count = i.count;
      operands = i.operands ++ replicate (257 - length i.operands) 0;
    }

-- an instruction that lists no operands
abbrev pub without : ℕ → ℕ → Instr
without op par = record { op = op; par = par; count = 0; operands = [] }
