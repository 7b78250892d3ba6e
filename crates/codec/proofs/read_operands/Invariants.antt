-- The numbers that are left fill the array up.
use mathlib.Core.Path.{◌≡◌}
use Prim.Native.Nat.{◌-◌}
use Rattle.codec.specs.Instructions.{numbers_at, operands_of}
use Rattle.codec.proofs.Filling.{filled}
use Rattle.codec.proofs.read_operands.Given as goal

abbrev pub invariant-loop-read : goal.invariant-loop-read
invariant-loop-read l =
    filled l.values l.read (numbers_at (l.count - l.read) l.bytes l.next) ≡ operands_of (numbers_at l.count l.bytes l.at)
