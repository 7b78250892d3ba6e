use Prim.Native.Nat.{◌*◌}
use lib.ListN.{length, drop, take}
use mathlib.Core.Path.{◌≡◌}
use Rattle.compiler.specs.Compiler.{gotten, inner}
use Rattle.compiler.proofs.Gather.{Left}
use Rattle.nodes.specs.Builds.{nodes_of}
use Rattle.arena.specs.Nodes.{out}
use Rattle.compiled.proofs.get_fields.Given as goal

abbrev pub invariant-loop-i : goal.invariant-loop-i
invariant-loop-i l =
    (length l.inner ≡ length l.initial.inner)
    × Left (λ a. out (gotten a l.list) 0) l.initial.arena (inner (nodes_of l.initial.arena) l.list) l.arena (take (2 * l.i) l.inner) (drop (2 * l.i) l.list)
    × (drop (length l.list) l.inner ≡ drop (length l.list) l.initial.inner)
