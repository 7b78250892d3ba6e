use mathlib.Core.Path.{ap, ◌∙◌}
use mathlib.Core.List.{List}
use Prim.Native.Nat.{ℕ}
use Rattle.arena.specs.Lists.{field}
use Rattle.arena.specs.Nodes.{mem_at}
use Rattle.factory.proofs.Calls.{ready_wf}
use Rattle.factory.proofs.Operands.{type_pos}
use Rattle.nodes.specs.Builds.{nodes_of}
use Rattle.runs.specs.Fields.{given}
use Rattle.compiled.proofs.field_type.Goals as goal

pub members_of-requires : goal.members_of-requires
members_of-requires c = record { below = c.requires.arena.below; bound = rw c.type_of-ty.ensures (type_pos (ready_wf c.requires) c.args.t.0 c.requires.fit.isterm) }

pub returns : goal.returns
returns c = c.field.ensures ∙ ap (λ (r : List ℕ). given (field r c.args.k)) (c.members_of.ensures ∙ ap (mem_at (nodes_of c.args.arena.now)) c.type_of-ty.ensures)
