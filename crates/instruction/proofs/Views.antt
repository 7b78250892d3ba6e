-- The struct that holds an instruction stands for it. Assumes nothing.
use mathlib.Core.Path.{◌≡◌, ap}
use mathlib.Core.List.{List}
use Prim.Native.Nat.{ℕ, ◌-◌}
use lib.ListN.{length, replicate}
use lib.Seq.{take_at}
use Rattle.instruction.specs.Instruction.{Instr, instr_of, held}

pub instr_of-held : (i : Instr) → length i.operands ≡ i.count → instr_of (held i) ≡ i
instr_of-held i e =
    ap (λ (l : List ℕ). record { op = i.op; par = i.par; count = i.count; operands = l })
    (take_at i.operands (replicate (257 - length i.operands) 0) i.count e)
