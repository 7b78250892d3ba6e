-- The groups that are left give what the whole number gives.
use mathlib.Core.Path.{◌≡◌}
use lib.ListN.{drop}
use Rattle.codec.specs.Numbers.{number_at}
use Rattle.codec.proofs.Steps.{Begun, steps}
use Rattle.codec.proofs.read_number.Given as goal

abbrev pub invariant-loop-next : goal.invariant-loop-next
invariant-loop-next l =
    Begun l.value l.shift × (steps l.value l.shift l.next (drop l.next l.bytes) ≡ number_at l.bytes l.at)
