use Prim.Native.Nat.{◌≤◌, ◌-◌}
use Rattle.arena.proofs.Scan.{Scan}
use Rattle.arena.specs.Cells.{node_here}
use Rattle.wellformed.proofs.is_new.Given as goal

abbrev pub invariant-loop-p : goal.invariant-loop-p
invariant-loop-p l = Scan l.cells l.q (node_here l.cells l.q) l.p × (l.p ≤ l.q)

abbrev pub decreases-loop-p : goal.decreases-loop-p
decreases-loop-p l = l.q - l.p
