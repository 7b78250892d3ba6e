use Rattle.nodes.specs.Builds.{nodes_of}
use Rattle.std.proofs.Common.{arith}
use mathlib.Core.Path.{refl, ◌∙◌}
use Rattle.table.specs.Table.{tm, row, table, row_of}
use Rattle.table.proofs.Arms.{passed_in}
use Rattle.table.proofs.Dispatch.{up, same, build-at}
use Rattle.table.proofs.Fits.{even_pairs, few_pairs, one-term, term-pairs, all_options, first_kind, width_64, one_bool, small-par, small-keys, field-there}
use Rattle.factory.proofs.Guards.{options}
use Rattle.arena.specs.Lists.{odds}
use Rattle.nodes.proofs.Steps.{builds_as}
use Rattle.compiled.proofs.build_compiled.Goals as goal

pub compile_not-requires : goal.compile_not-requires
unfolding row row_of table
compile_not-requires c =
    let P = passed_in 70 c.in-70.is c.requires.ready in
    record { arena = c.requires.ready.arena; fit = rw c.nth.ensures (one_bool _ c.args.xs.now P.wf P.tests.sorts P.tests.five) }

pub compile_neg-requires : goal.compile_neg-requires
unfolding row row_of table
compile_neg-requires c =
    let P = passed_in 71 c.in-71.is c.requires.ready in
    record { arena = c.requires.ready.arena; fit = rw c.nth.ensures (width_64 _ c.args.xs.now (one-term _ c.args.xs.now P.tests.sorts) P.tests.five).0 }

pub compile_is_empty-requires : goal.compile_is_empty-requires
unfolding row row_of table
compile_is_empty-requires c =
    let P = passed_in 72 c.in-72.is c.requires.ready in
    record { arena = c.requires.ready.arena; fit = rw c.nth.ensures (first_kind _ c.args.xs.now 4 (one-term _ c.args.xs.now P.tests.sorts) P.tests.five) }

pub compile_record-requires : goal.compile_record-requires
unfolding row row_of table
compile_record-requires c =
    let s = c.requires.ready in
    let P = passed_in 73 c.in-73.is s in
    record { ready = record { arena = s.arena; fit = (options (nodes_of c.args.arena.now) (odds c.args.xs.now) (term-pairs (nodes_of c.args.arena.now) c.args.xs.now P.tests.sorts) (all_options (nodes_of c.args.arena.now) (odds c.args.xs.now) P.tests.five), small-keys (nodes_of c.args.arena.now) c.args.par c.args.xs.now P.tests.seven) }; list_len = even_pairs c.args.xs.now _ refl tm P.tests.count; list_len_bound = few_pairs c.args.xs.now _ refl tm P.tests.few }

pub compile_has_attr-requires : goal.compile_has_attr-requires
unfolding row row_of table
compile_has_attr-requires c =
    let P = passed_in 74 c.in-74.is c.requires.ready in
    record { arena = c.requires.ready.arena; fit = (rw c.nth.ensures (first_kind _ c.args.xs.now 5 (one-term _ c.args.xs.now P.tests.sorts) P.tests.five), small-par (nodes_of c.args.arena.now) c.args.par c.args.xs.now P.tests.seven) }

pub compile_get_attr-requires : goal.compile_get_attr-requires
unfolding row row_of table
compile_get_attr-requires c =
    let P = passed_in 75 (same (up (up (up (up (up c.requires.le_op.0 (λ e. omega arith)) (λ e. omega arith)) (λ e. omega arith)) (λ e. omega arith)) (λ e. omega arith)) c.requires.le_op.1) c.requires.ready in
    record { arena = c.requires.ready.arena; fit = rw c.nth.ensures (record { rec = first_kind _ c.args.xs.now 5 (one-term _ c.args.xs.now P.tests.sorts) P.tests.five; small = small-par (nodes_of c.args.arena.now) c.args.par c.args.xs.now P.tests.seven; there = field-there (nodes_of c.args.arena.now) c.args.par c.args.xs.now P.tests.eight }) }

pub returns-in-70 : goal.returns-in-70
unfolding row row_of table
returns-in-70 c = builds_as c.compile_not.ensures (build-at _ _ _ _ 70 c.in-70.is ∙ rw c.nth.ensures)

pub returns-in-71 : goal.returns-in-71
unfolding row row_of table
returns-in-71 c = builds_as c.compile_neg.ensures (build-at _ _ _ _ 71 c.in-71.is ∙ rw c.nth.ensures)

pub returns-in-72 : goal.returns-in-72
unfolding row row_of table
returns-in-72 c = builds_as c.compile_is_empty.ensures (build-at _ _ _ _ 72 c.in-72.is ∙ rw c.nth.ensures)

pub returns-in-73 : goal.returns-in-73
unfolding row row_of table
returns-in-73 c = builds_as c.compile_record.ensures (build-at _ _ _ _ 73 c.in-73.is)

pub returns-in-74 : goal.returns-in-74
unfolding row row_of table
returns-in-74 c = builds_as c.compile_has_attr.ensures (build-at _ _ _ _ 74 c.in-74.is ∙ rw c.nth.ensures)

pub returns-in_default : goal.returns-in_default
unfolding row row_of table
returns-in_default c = builds_as c.compile_get_attr.ensures (build-at _ _ _ _ 75 (same (up (up (up (up (up c.requires.le_op.0 (λ e. omega arith)) (λ e. omega arith)) (λ e. omega arith)) (λ e. omega arith)) (λ e. omega arith)) c.requires.le_op.1) ∙ rw c.nth.ensures)
