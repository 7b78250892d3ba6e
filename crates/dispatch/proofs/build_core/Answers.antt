use Rattle.std.proofs.Common.{arith}
use mathlib.Core.Path.{◌∙◌}
use Rattle.table.specs.Table.{row, table, row_of}
use Rattle.table.proofs.Arms.{passed_in}
use Rattle.table.proofs.Dispatch.{up, same, build-at}
use Rattle.table.proofs.Fits.{two_alike, one_bool, two_bools, choice_of}
use Rattle.nodes.proofs.Steps.{builds_as}
use Rattle.dispatch.proofs.build_core.Goals as goal

pub not-requires : goal.not-requires
unfolding row row_of table
not-requires c =
    let P = passed_in 20 c.in-20.is c.requires.ready in
    record { arena = c.requires.ready.arena; fit = rw c.nth-x.ensures (one_bool _ c.args.xs.now P.wf P.tests.sorts P.tests.five) }

pub and-requires : goal.and-requires
unfolding row row_of table
and-requires c =
    let P = passed_in 21 c.in-21.is c.requires.ready in
    record { arena = c.requires.ready.arena; fit = rw (c.nth-x.ensures, c.nth.ensures) (two_bools _ c.args.xs.now P.wf P.tests.sorts P.tests.five) }

pub or-requires : goal.or-requires
unfolding row row_of table
or-requires c =
    let P = passed_in 22 c.in-22.is c.requires.ready in
    record { arena = c.requires.ready.arena; fit = rw (c.nth-x.ensures, c.nth.ensures) (two_bools _ c.args.xs.now P.wf P.tests.sorts P.tests.five) }

pub implies-requires : goal.implies-requires
unfolding row row_of table
implies-requires c =
    let P = passed_in 23 c.in-23.is c.requires.ready in
    record { arena = c.requires.ready.arena; fit = rw (c.nth-x.ensures, c.nth.ensures) (two_bools _ c.args.xs.now P.wf P.tests.sorts P.tests.five) }

pub eq-requires : goal.eq-requires
unfolding row row_of table
eq-requires c =
    let P = passed_in 24 c.in-24.is c.requires.ready in
    record { arena = c.requires.ready.arena; fit = rw (c.nth-x.ensures, c.nth.ensures) (two_alike _ c.args.xs.now P.tests.sorts P.tests.five) }

pub ite-requires : goal.ite-requires
unfolding row row_of table
ite-requires c =
    let P = passed_in 25 c.in-25.is c.requires.ready in
    record { arena = c.requires.ready.arena; fit = rw (c.nth-x.ensures, c.nth.ensures, c.nth-in-25.ensures) (choice_of _ c.args.xs.now P.wf P.tests.sorts P.tests.five) }

pub uninterpreted-requires : goal.uninterpreted-requires
unfolding row row_of table
uninterpreted-requires c = c.requires.ready.arena

pub returns-in-20 : goal.returns-in-20
unfolding row row_of table
returns-in-20 c = builds_as c.not.ensures (build-at _ _ _ _ 20 c.in-20.is ∙ rw c.nth-x.ensures)

pub returns-in-21 : goal.returns-in-21
unfolding row row_of table
returns-in-21 c = builds_as c.and.ensures (build-at _ _ _ _ 21 c.in-21.is ∙ rw (c.nth-x.ensures, c.nth.ensures))

pub returns-in-22 : goal.returns-in-22
unfolding row row_of table
returns-in-22 c = builds_as c.or.ensures (build-at _ _ _ _ 22 c.in-22.is ∙ rw (c.nth-x.ensures, c.nth.ensures))

pub returns-in-23 : goal.returns-in-23
unfolding row row_of table
returns-in-23 c = builds_as c.implies.ensures (build-at _ _ _ _ 23 c.in-23.is ∙ rw (c.nth-x.ensures, c.nth.ensures))

pub returns-in-24 : goal.returns-in-24
unfolding row row_of table
returns-in-24 c = builds_as c.eq.ensures (build-at _ _ _ _ 24 c.in-24.is ∙ rw (c.nth-x.ensures, c.nth.ensures))

pub returns-in-25 : goal.returns-in-25
unfolding row row_of table
returns-in-25 c = builds_as c.ite.ensures (build-at _ _ _ _ 25 c.in-25.is ∙ rw (c.nth-x.ensures, c.nth.ensures, c.nth-in-25.ensures))

pub returns-in_default : goal.returns-in_default
unfolding row row_of table
returns-in_default c = builds_as c.uninterpreted.ensures (build-at _ _ _ _ 26 (same (up (up (up (up (up (up c.requires.le_op.0 (λ e. omega arith)) (λ e. omega arith)) (λ e. omega arith)) (λ e. omega arith)) (λ e. omega arith)) (λ e. omega arith)) c.requires.le_op.1) ∙ rw (c.nth-x.ensures, c.nth.ensures))
