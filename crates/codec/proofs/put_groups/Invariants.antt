-- The groups that are left, stored from the next place on, give the whole.
use mathlib.Core.Path.{◌≡◌}
use Prim.Native.Nat.{◌+◌}
use lib.ListN.{length}
use lib.Seq.{sets}
use Rattle.codec.specs.Numbers.{groups}
use Rattle.codec.proofs.put_groups.Given as goal

abbrev pub invariant-loop-next : goal.invariant-loop-next
invariant-loop-next l =
    (l.next + length (groups l.rest) ≡ l.at + length (groups l.n)) × (sets l.out l.next (groups l.rest) ≡ sets l.initial.out l.at (groups l.n))
