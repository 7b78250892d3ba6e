use Prim.Native.Nat.{◌≤◌}
use lib.ListN.{length, drop, take}
use mathlib.Core.List.{◌++◌}
use mathlib.Core.Path.{◌≡◌}
use Rattle.arena.specs.Lists.{common}
use Rattle.arena.specs.Runs.{Holds}
use Rattle.factory_data.proofs.lists.common.Given as goal

abbrev pub invariant-loop-x : goal.invariant-loop-x
invariant-loop-x l =
    (l.n ≤ l.x-index) × (length l.run ≡ length l.initial.run) × Holds (take l.n l.run) l.initial.run l.n l.run × (common l.left l.right ≡ take l.n l.run ++ common (drop l.x-index l.left) l.right)
