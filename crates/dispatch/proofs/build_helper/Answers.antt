use Rattle.nodes.specs.Builds.{nodes_of}
use Rattle.std.proofs.Common.{arith}
use lib.ListN.{drop}
use mathlib.Core.Path.{◌∙◌}
use Rattle.table.specs.Table.{row, table, row_of}
use Rattle.table.proofs.Arms.{passed_in}
use Rattle.table.proofs.Dispatch.{up, same, build-at}
use Rattle.table.proofs.Fits.{one-term, two-terms, term-run, run-terms, all_options, first_kind, bool-first}
use Rattle.factory.proofs.Guards.{options}
use Rattle.nodes.proofs.Steps.{builds_as}
use Rattle.dispatch.proofs.build_helper.Goals as goal

pub is_none-requires : goal.is_none-requires
unfolding row row_of table
is_none-requires c =
    let P = passed_in 60 c.in-60.is c.requires.ready in
    record { arena = c.requires.ready.arena; fit = rw c.nth.ensures (first_kind _ c.args.xs.now 3 (one-term _ c.args.xs.now P.tests.sorts) P.tests.five) }

pub is_some-requires : goal.is_some-requires
unfolding row row_of table
is_some-requires c =
    let P = passed_in 61 c.in-61.is c.requires.ready in
    record { arena = c.requires.ready.arena; fit = rw c.nth.ensures (first_kind _ c.args.xs.now 3 (one-term _ c.args.xs.now P.tests.sorts) P.tests.five) }

pub if_false-requires : goal.if_false-requires
unfolding row row_of table
if_false-requires c =
    let P = passed_in 62 c.in-62.is c.requires.ready in
    record { arena = c.requires.ready.arena; fit = rw (c.nth.ensures, c.nth-2.ensures) (bool-first _ c.args.xs.now P.wf P.tests.sorts P.tests.five) }

pub if_true-requires : goal.if_true-requires
unfolding row row_of table
if_true-requires c =
    let P = passed_in 63 c.in-63.is c.requires.ready in
    record { arena = c.requires.ready.arena; fit = rw (c.nth.ensures, c.nth-2.ensures) (bool-first _ c.args.xs.now P.wf P.tests.sorts P.tests.five) }

pub if_some-requires : goal.if_some-requires
unfolding row row_of table
if_some-requires c =
    let s = c.requires.ready in
    let P = passed_in 64 c.in-64.is s in
    let t = two-terms (nodes_of c.args.arena.now) c.args.xs.now P.tests.sorts in
    record { arena = s.arena; fit = (rw c.nth.ensures (first_kind (nodes_of c.args.arena.now) c.args.xs.now 3 t.0 P.tests.five), rw c.nth-2.ensures t.1) }

pub any_none-requires : goal.any_none-requires
unfolding row row_of table
any_none-requires c =
    let P = passed_in 65 c.in-65.is c.requires.ready in
    record { arena = c.requires.ready.arena; fit = options _ c.args.xs.now (run-terms _ c.args.xs.now P.tests.sorts) (all_options _ c.args.xs.now P.tests.five) }

pub if_all_some-requires : goal.if_all_some-requires
unfolding row row_of table
if_all_some-requires c =
    let s = c.requires.ready in
    let P = passed_in 66 (same (up (up (up (up (up (up c.requires.le_op.0 (λ e. omega arith)) (λ e. omega arith)) (λ e. omega arith)) (λ e. omega arith)) (λ e. omega arith)) (λ e. omega arith)) c.requires.le_op.1) s in
    let t = term-run (nodes_of c.args.arena.now) c.args.xs.now P.tests.sorts in
    record { arena = s.arena; fit = (rw c.rest.ensures (options (nodes_of c.args.arena.now) (drop 1 c.args.xs.now) t.1 (all_options (nodes_of c.args.arena.now) (drop 1 c.args.xs.now) P.tests.five)), rw c.nth.ensures t.0) }

pub returns-in-60 : goal.returns-in-60
unfolding row row_of table
returns-in-60 c = builds_as c.is_none.ensures (build-at _ _ _ _ 60 c.in-60.is ∙ rw c.nth.ensures)

pub returns-in-61 : goal.returns-in-61
unfolding row row_of table
returns-in-61 c = builds_as c.is_some.ensures (build-at _ _ _ _ 61 c.in-61.is ∙ rw c.nth.ensures)

pub returns-in-62 : goal.returns-in-62
unfolding row row_of table
returns-in-62 c = builds_as c.if_false.ensures (build-at _ _ _ _ 62 c.in-62.is ∙ rw (c.nth.ensures, c.nth-2.ensures))

pub returns-in-63 : goal.returns-in-63
unfolding row row_of table
returns-in-63 c = builds_as c.if_true.ensures (build-at _ _ _ _ 63 c.in-63.is ∙ rw (c.nth.ensures, c.nth-2.ensures))

pub returns-in-64 : goal.returns-in-64
unfolding row row_of table
returns-in-64 c = builds_as c.if_some.ensures (build-at _ _ _ _ 64 c.in-64.is ∙ rw (c.nth.ensures, c.nth-2.ensures))

pub returns-in-65 : goal.returns-in-65
unfolding row row_of table
returns-in-65 c = builds_as c.any_none.ensures (build-at _ _ _ _ 65 c.in-65.is)

pub returns-in_default : goal.returns-in_default
unfolding row row_of table
returns-in_default c = builds_as c.if_all_some.ensures (build-at _ _ _ _ 66 (same (up (up (up (up (up (up c.requires.le_op.0 (λ e. omega arith)) (λ e. omega arith)) (λ e. omega arith)) (λ e. omega arith)) (λ e. omega arith)) (λ e. omega arith)) c.requires.le_op.1) ∙ rw (c.nth.ensures, c.rest.ensures))
