use Prim.Native.Nat.{◌≤◌, ◌-◌}
use Rattle.arena.proofs.Starts.{Past}
use Rattle.arena.proofs.cells.View.kind_from.Given as goal

abbrev pub invariant-loop-at : goal.invariant-loop-at
invariant-loop-at l = (l.at ≤ l.self.mark) × Past l.self.cells.now l.self.mark l.p l.at

abbrev pub decreases-loop-at : goal.decreases-loop-at
decreases-loop-at l = l.self.mark - l.at
