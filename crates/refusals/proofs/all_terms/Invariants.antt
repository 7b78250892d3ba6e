use mathlib.Core.Path.{◌≡◌}
use Prim.Native.Nat.{◌≤◌}
use lib.ListN.{drop}
use Rattle.arena.specs.Lists.{all}
use Rattle.arena.specs.Nodes.{kind_at}
use Rattle.arena.specs.View.{nodes_of}
use Rattle.arena.specs.WellFormed.{is_term}
use Rattle.refusals.proofs.all_terms.Given as goal

abbrev pub invariant-loop-x : goal.invariant-loop-x
invariant-loop-x l =
    (all (is_term (nodes_of l.nodes)) l.xs ≡ all (is_term (nodes_of l.nodes)) (drop l.x-index l.xs)) × (1 ≤ kind_at (nodes_of l.nodes) l.foot)
