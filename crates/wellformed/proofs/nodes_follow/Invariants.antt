use Prim.Native.Nat.{◌-◌}
use lib.ListN.{length}
use Rattle.node_tests.proofs.Steps.{Going}
use Rattle.wellformed.proofs.nodes_follow.Given as goal

abbrev pub invariant-loop-q : goal.invariant-loop-q
invariant-loop-q l = Going l.cells l.mark (length l.initial.starts) l.q l.starts

abbrev pub decreases-loop-q : goal.decreases-loop-q
decreases-loop-q l = l.mark - l.q
