use Prim.Native.Nat.{◌-◌}
use lib.ListN.{length}
use Rattle.script.specs.Script.{state}
use Rattle.script.proofs.Going.{Going}
use Rattle.script.proofs.walk.Given as goal

abbrev pub invariant-loop-place : goal.invariant-loop-place
invariant-loop-place l = Going l.bytes (state l.initial.cells l.mark 0) l.initial.out (state l.cells l.place.mark l.place.at) l.place.end l.out

abbrev pub decreases-loop-place : goal.decreases-loop-place
decreases-loop-place l = length l.bytes - l.place.at
