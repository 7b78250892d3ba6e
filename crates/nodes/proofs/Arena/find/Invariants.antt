use Prim.Native.Nat.{◌≤◌, ◌-◌}
use Rattle.arena.specs.Node.{node_of}
use Rattle.arena.proofs.Scan.{Scan}
use Rattle.nodes.proofs.Arena.find.Given as goal

abbrev pub invariant-loop-at : goal.invariant-loop-at
invariant-loop-at l = (l.at ≤ l.self.mark) × Scan l.self.cells.now l.self.mark (node_of l.node) l.at

abbrev pub decreases-loop-at : goal.decreases-loop-at
decreases-loop-at l = l.self.mark - l.at
