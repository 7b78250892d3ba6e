-- The measure is the position, which falls at each call. The loop's invariant: the node is clean exactly if the members from i on are, and the flags are right.
use mathlib.Core.Path.{◌≡◌}
use lib.ListN.{drop}
use Rattle.arena.specs.Lists.{all}
use Rattle.arena.specs.Nodes.{node_at, args}
use Rattle.arena.specs.View.{nodes_of}
use Rattle.arena.specs.Visit.{clean, Known}
use Rattle.walks.proofs.+walk.Given as goal

abbrev pub invariant-loop-i : goal.invariant-loop-i
invariant-loop-i l =
    (clean (nodes_of l.nodes) l.at ≡ all (clean (nodes_of l.nodes)) (drop l.i (args (node_at (nodes_of l.nodes) l.at))))
    × Known (nodes_of l.nodes) l.flags

abbrev pub decreases-walk : goal.decreases-walk
decreases-walk l = l.at
