use Rattle.std.proofs.Common.{arith}
use mathlib.Core.Path.{◌∙◌}
use Rattle.table.specs.Table.{row, table, row_of}
use Rattle.table.proofs.Dispatch.{up, same, build-at}
use Rattle.nodes.proofs.Steps.{builds_as}
use Rattle.dispatch.proofs.build_type.Goals as goal

pub type_node-requires : goal.type_node-requires
unfolding row row_of table
type_node-requires c = c.requires.ready.arena

pub bitvec_type-requires : goal.bitvec_type-requires
unfolding row row_of table
bitvec_type-requires c = c.requires.ready.arena

pub option_type-requires : goal.option_type-requires
unfolding row row_of table
option_type-requires c = c.requires.ready.arena

pub set_type-requires : goal.set_type-requires
unfolding row row_of table
set_type-requires c = c.requires.ready.arena

pub record_type-requires : goal.record_type-requires
unfolding row row_of table
record_type-requires c = c.requires.ready.arena

pub returns-in-1 : goal.returns-in-1
unfolding row row_of table
returns-in-1 c = builds_as c.type_node.ensures (build-at _ _ _ _ 1 c.in-1.is)

pub returns-in-2 : goal.returns-in-2
unfolding row row_of table
returns-in-2 c = builds_as c.bitvec_type.ensures (build-at _ _ _ _ 2 c.in-2.is)

pub returns-in-3 : goal.returns-in-3
unfolding row row_of table
returns-in-3 c = builds_as c.option_type.ensures (build-at _ _ _ _ 3 c.in-3.is ∙ rw c.nth.ensures)

pub returns-in-4 : goal.returns-in-4
unfolding row row_of table
returns-in-4 c = builds_as c.set_type.ensures (build-at _ _ _ _ 4 c.in-4.is ∙ rw c.nth.ensures)

pub returns-in_default : goal.returns-in_default
unfolding row row_of table
returns-in_default c = builds_as c.record_type.ensures (build-at _ _ _ _ 5 (same (up (up (up (up c.requires.le_op.0 (λ e. omega arith)) (λ e. omega arith)) (λ e. omega arith)) (λ e. omega arith)) c.requires.le_op.1))
