use Prim.Native.Nat.{◌*◌}
use lib.ListN.{length, drop, take}
use mathlib.Core.Bool.{true}
use mathlib.Core.List.{◌++◌}
use mathlib.Core.Path.{◌≡◌}
use Rattle.nodes.specs.Builds.{nodes_of}
use Rattle.arena.specs.Lists.{all, odds}
use Rattle.arena.specs.Nodes.{field_types}
use Rattle.arena.specs.WellFormed.{is_term}
use Rattle.factory_makers.proofs.field_types.Given as goal

abbrev pub invariant-loop-i : goal.invariant-loop-i
invariant-loop-i l =
    (length l.types ≡ length l.initial.types) × (all (is_term (nodes_of l.arena)) (odds (drop (2 * l.i) l.run)) ≡ true)
    × (field_types (nodes_of l.arena) l.run ≡ take (2 * l.i) l.types ++ field_types (nodes_of l.arena) (drop (2 * l.i) l.run)) × (drop (length l.run) l.types ≡ drop (length l.run) l.initial.types)
