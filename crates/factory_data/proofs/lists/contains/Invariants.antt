use lib.ListN.{drop}
use mathlib.Core.Path.{◌≡◌}
use Rattle.arena.specs.Lists.{mem?}
use Rattle.factory_data.proofs.lists.contains.Given as goal

abbrev pub invariant-loop-y : goal.invariant-loop-y
invariant-loop-y l = mem? l.x l.list ≡ mem? l.x (drop l.y-index l.list)
