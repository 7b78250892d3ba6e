use Rattle.nodes.specs.Builds.{nodes_of}
use Rattle.std.proofs.Common.{arith}
use mathlib.Core.List.{[], ◌∷◌}
use mathlib.Core.Path.{refl, ◌∙◌}
use Rattle.table.specs.Table.{ty, tm, row, table, row_of}
use Rattle.table.proofs.Arms.{passed_in}
use Rattle.table.proofs.Dispatch.{up, same, build-at}
use Rattle.table.proofs.Fits.{few_pairs, few_run, one_type_lem, one-term, type-run, term-pairs, elements, small-keys}
use Rattle.nodes.proofs.Steps.{builds_as, builds_here}
use Rattle.dispatch.proofs.build_maker.Goals as goal

pub bitvec_lit-requires : goal.bitvec_lit-requires
unfolding row row_of table
bitvec_lit-requires c = c.requires.ready.arena

pub none_of-requires : goal.none_of-requires
unfolding row row_of table
none_of-requires c =
    let P = passed_in 12 c.in-12.is c.requires.ready in
    record { arena = c.requires.ready.arena; fit = rw c.nth-x.ensures (one_type_lem _ c.args.xs.now P.tests.sorts) }

pub some_of-requires : goal.some_of-requires
unfolding row row_of table
some_of-requires c =
    let P = passed_in 13 c.in-13.is c.requires.ready in
    record { arena = c.requires.ready.arena; fit = rw c.nth-x.ensures (one-term _ c.args.xs.now P.tests.sorts) }

pub set_of-requires : goal.set_of-requires
unfolding row row_of table
set_of-requires c =
    let s = c.requires.ready in
    let P = passed_in 14 c.in-14.is s in
    record { ready = record { arena = s.arena; fit = (rw c.nth-x.ensures (type-run (nodes_of c.args.arena.now) c.args.xs.now P.tests.sorts).0, rw c.nth-x.ensures (elements (nodes_of c.args.arena.now) c.args.xs.now P.tests.five).0) }; terms_len_bound = rw c.rest.ensures (few_run c.args.xs.now _ refl (ty ∷ []) P.tests.few) }

pub record_of-requires : goal.record_of-requires
unfolding row row_of table
record_of-requires c =
    let s = c.requires.ready in
    let P = passed_in 15 c.in-15.is s in
    record { ready = record { arena = s.arena; fit = (term-pairs (nodes_of c.args.arena.now) c.args.xs.now P.tests.sorts, small-keys (nodes_of c.args.arena.now) c.args.par c.args.xs.now P.tests.seven) }; list_len_bound = few_pairs c.args.xs.now _ refl tm P.tests.few }

pub variable-requires : goal.variable-requires
unfolding row row_of table
variable-requires c = c.requires.ready.arena

pub returns-in-10 : goal.returns-in-10
unfolding row row_of table
returns-in-10 c = builds_as (builds_here c.args.arena.now c.requires.ready.arena c.bool_at.result.0) (build-at _ _ _ _ 10 c.in-10.is ∙ rw c.bool_at.ensures)

pub returns-in-11 : goal.returns-in-11
unfolding row row_of table
returns-in-11 c = builds_as c.bitvec_lit.ensures (build-at _ _ _ _ 11 c.in-11.is ∙ rw c.nth-x.ensures)

pub returns-in-12 : goal.returns-in-12
unfolding row row_of table
returns-in-12 c = builds_as c.none_of.ensures (build-at _ _ _ _ 12 c.in-12.is ∙ rw c.nth-x.ensures)

pub returns-in-13 : goal.returns-in-13
unfolding row row_of table
returns-in-13 c = builds_as c.some_of.ensures (build-at _ _ _ _ 13 c.in-13.is ∙ rw c.nth-x.ensures)

pub returns-in-14 : goal.returns-in-14
unfolding row row_of table
returns-in-14 c = builds_as c.set_of.ensures (build-at _ _ _ _ 14 c.in-14.is ∙ rw (c.nth-x.ensures, c.rest.ensures))

pub returns-in-15 : goal.returns-in-15
unfolding row row_of table
returns-in-15 c = builds_as c.record_of.ensures (build-at _ _ _ _ 15 c.in-15.is)

pub returns-in_default : goal.returns-in_default
unfolding row row_of table
returns-in_default c = builds_as c.variable.ensures (build-at _ _ _ _ 16 (same (up (up (up (up (up (up c.requires.le_op.0 (λ e. omega arith)) (λ e. omega arith)) (λ e. omega arith)) (λ e. omega arith)) (λ e. omega arith)) (λ e. omega arith)) c.requires.le_op.1) ∙ rw c.nth-x.ensures)
