use mathlib.Core.Path.{◌≡◌}
use lib.ListN.{drop}
use Rattle.arena.specs.Lists.{any}
use Rattle.arena.specs.View.{nodes_of}
use Rattle.table.specs.Forms.{misfit}
use Rattle.refusals.proofs.any_misfits.Given as goal

abbrev pub invariant-loop-x : goal.invariant-loop-x
invariant-loop-x l =
    any (misfit (nodes_of l.nodes) l.named) l.xs ≡ any (misfit (nodes_of l.nodes) l.named) (drop l.x-index l.xs)
