use Rattle.std.proofs.Common.{arith}
use mathlib.Core.Path.{◌∙◌}
use Rattle.table.specs.Table.{row, table, row_of}
use Rattle.table.proofs.Arms.{passed_in}
use Rattle.table.proofs.Dispatch.{up, same, build-at}
use Rattle.table.proofs.Fits.{one-term, two-terms, first_kind, two-kind}
use Rattle.nodes.proofs.Steps.{builds_as}
use Rattle.dispatch.proofs.build_data.Goals as goal

pub set_member-requires : goal.set_member-requires
unfolding row row_of table
set_member-requires c =
    let P = passed_in 50 c.in-50.is c.requires.ready in
    record { arena = c.requires.ready.arena; fit = rw (c.nth.ensures, c.nth-2.ensures) (two-terms _ c.args.xs.now P.tests.sorts) }

pub set_subset-requires : goal.set_subset-requires
unfolding row row_of table
set_subset-requires c =
    let P = passed_in 51 c.in-51.is c.requires.ready in
    record { arena = c.requires.ready.arena; fit = rw (c.nth.ensures, c.nth-2.ensures) (two-terms _ c.args.xs.now P.tests.sorts) }

pub set_inter-requires : goal.set_inter-requires
unfolding row row_of table
set_inter-requires c =
    let P = passed_in 52 c.in-52.is c.requires.ready in
    record { arena = c.requires.ready.arena; fit = rw (c.nth.ensures, c.nth-2.ensures) (two-terms _ c.args.xs.now P.tests.sorts) }

pub set_is_empty-requires : goal.set_is_empty-requires
unfolding row row_of table
set_is_empty-requires c =
    let P = passed_in 53 c.in-53.is c.requires.ready in
    record { arena = c.requires.ready.arena; fit = rw c.nth.ensures (first_kind _ c.args.xs.now 4 (one-term _ c.args.xs.now P.tests.sorts) P.tests.five) }

pub set_intersects-requires : goal.set_intersects-requires
unfolding row row_of table
set_intersects-requires c =
    let P = passed_in 54 c.in-54.is c.requires.ready in
    record { arena = c.requires.ready.arena; fit = rw (c.nth.ensures, c.nth-2.ensures) (two-kind _ c.args.xs.now 4 P.tests.sorts P.tests.five) }

pub option_get-requires : goal.option_get-requires
unfolding row row_of table
option_get-requires c =
    let P = passed_in 55 c.in-55.is c.requires.ready in
    record { arena = c.requires.ready.arena; fit = rw c.nth.ensures (one-term _ c.args.xs.now P.tests.sorts) }

pub record_get-requires : goal.record_get-requires
unfolding row row_of table
record_get-requires c =
    let P = passed_in 56 (same (up (up (up (up (up (up c.requires.le_op.0 (λ e. omega arith)) (λ e. omega arith)) (λ e. omega arith)) (λ e. omega arith)) (λ e. omega arith)) (λ e. omega arith)) c.requires.le_op.1) c.requires.ready in
    record { arena = c.requires.ready.arena; fit = rw c.nth.ensures (one-term _ c.args.xs.now P.tests.sorts) }

pub returns-in-50 : goal.returns-in-50
unfolding row row_of table
returns-in-50 c = builds_as c.set_member.ensures (build-at _ _ _ _ 50 c.in-50.is ∙ rw (c.nth.ensures, c.nth-2.ensures))

pub returns-in-51 : goal.returns-in-51
unfolding row row_of table
returns-in-51 c = builds_as c.set_subset.ensures (build-at _ _ _ _ 51 c.in-51.is ∙ rw (c.nth.ensures, c.nth-2.ensures))

pub returns-in-52 : goal.returns-in-52
unfolding row row_of table
returns-in-52 c = builds_as c.set_inter.ensures (build-at _ _ _ _ 52 c.in-52.is ∙ rw (c.nth.ensures, c.nth-2.ensures))

pub returns-in-53 : goal.returns-in-53
unfolding row row_of table
returns-in-53 c = builds_as c.set_is_empty.ensures (build-at _ _ _ _ 53 c.in-53.is ∙ rw c.nth.ensures)

pub returns-in-54 : goal.returns-in-54
unfolding row row_of table
returns-in-54 c = builds_as c.set_intersects.ensures (build-at _ _ _ _ 54 c.in-54.is ∙ rw (c.nth.ensures, c.nth-2.ensures))

pub returns-in-55 : goal.returns-in-55
unfolding row row_of table
returns-in-55 c = builds_as c.option_get.ensures (build-at _ _ _ _ 55 c.in-55.is ∙ rw c.nth.ensures)

pub returns-in_default : goal.returns-in_default
unfolding row row_of table
returns-in_default c = builds_as c.record_get.ensures (build-at _ _ _ _ 56 (same (up (up (up (up (up (up c.requires.le_op.0 (λ e. omega arith)) (λ e. omega arith)) (λ e. omega arith)) (λ e. omega arith)) (λ e. omega arith)) (λ e. omega arith)) c.requires.le_op.1) ∙ rw c.nth.ensures)
