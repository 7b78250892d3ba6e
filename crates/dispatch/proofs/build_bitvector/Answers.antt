use Rattle.nodes.specs.Builds.{nodes_of}
use lib.ListN.{get_or}
use mathlib.Core.Path.{◌≡◌, ◌∙◌}
use native.Mathlib.Omega.{arith}
use Rattle.table.specs.Table.{row, table, row_of}
use Rattle.table.proofs.Arms.{passed_in}
use Rattle.table.proofs.Dispatch.{build-at, passed_row, app-row, cmp_row, so_row, build-row}
use Rattle.table.proofs.Fits.{one-term, first_kind, two-kind, widened}
use Rattle.factory.proofs.Calls.{ready_wf}
use Rattle.nodes.proofs.Steps.{builds_as}
use Rattle.dispatch.proofs.build_bitvector.Goals as goal

pub bvneg-requires : goal.bvneg-requires
unfolding row row_of table
bvneg-requires c =
    let P = passed_in 30 (let h = c.requires.le_op in let t = c.if-op-le30.true in omega arith) c.requires.ready in
    record { arena = c.requires.ready.arena; fit = rw c.nth.ensures (first_kind _ c.args.xs.now 2 (one-term _ c.args.xs.now P.tests.sorts) P.tests.five) }

pub returns-then-op-le30 : goal.returns-then-op-le30
unfolding row row_of table
returns-then-op-le30 c =
    let e : c.args.op ≡ 30 = let h = c.requires.le_op in let t = c.if-op-le30.true in omega arith in
    builds_as c.bvneg.ensures (build-at _ _ _ _ 30 e ∙ rw c.nth.ensures)

pub bvapp-requires : goal.bvapp-requires
bvapp-requires c =
    let s = c.requires.ready in
    let w = ready_wf s in
    let P = passed_row _ _ _ _ _ (app-row _ c.if-op-le30.false c.if-op-le40.true) s.fit in
    record { ready = record { arena = s.arena; fit = rw (c.nth.ensures, c.nth-2.ensures) (two-kind (nodes_of c.args.arena.now) c.args.xs.now 2 P.sorts P.five) }; op_bound = (let t = c.if-op-le40.true in omega arith) }

pub returns-then-op-le40 : goal.returns-then-op-le40
returns-then-op-le40 c = builds_as c.bvapp.ensures (build-row _ _ _ _ _ (app-row c.args.op c.if-op-le30.false c.if-op-le40.true) ∙ rw (c.nth.ensures, c.nth-2.ensures))

pub bvcmp-requires : goal.bvcmp-requires
bvcmp-requires c =
    let s = c.requires.ready in
    let w = ready_wf s in
    let P = passed_row _ _ _ _ _ (cmp_row _ c.if-op-le40.false c.if-op-le44.true) s.fit in
    record { ready = record { arena = s.arena; fit = rw (c.nth.ensures, c.nth-2.ensures) (two-kind (nodes_of c.args.arena.now) c.args.xs.now 2 P.sorts P.five) }; op_bound = (let t = c.if-op-le44.true in omega arith) }

pub returns-then-op-le44 : goal.returns-then-op-le44
returns-then-op-le44 c = builds_as c.bvcmp.ensures (build-row _ _ _ _ _ (cmp_row c.args.op c.if-op-le40.false c.if-op-le44.true) ∙ rw (c.nth.ensures, c.nth-2.ensures))

pub bvnego-requires : goal.bvnego-requires
unfolding row row_of table
bvnego-requires c =
    let P = passed_in 45 (let h = c.if-op-le44.false in let t = c.if-op-le45.true in omega arith) c.requires.ready in
    record { arena = c.requires.ready.arena; fit = rw c.nth.ensures (first_kind _ c.args.xs.now 2 (one-term _ c.args.xs.now P.tests.sorts) P.tests.five) }

pub returns-then-op-le45 : goal.returns-then-op-le45
unfolding row row_of table
returns-then-op-le45 c =
    let e : c.args.op ≡ 45 = let h = c.if-op-le44.false in let t = c.if-op-le45.true in omega arith in
    builds_as c.bvnego.ensures (build-at _ _ _ _ 45 e ∙ rw c.nth.ensures)

pub bvso-requires : goal.bvso-requires
bvso-requires c =
    let s = c.requires.ready in
    let w = ready_wf s in
    let P = passed_row _ _ _ _ _ (so_row _ c.if-op-le45.false c.if-op-le48.true) s.fit in
    record { ready = record { arena = s.arena; fit = rw (c.nth.ensures, c.nth-2.ensures) (two-kind (nodes_of c.args.arena.now) c.args.xs.now 2 P.sorts P.five) }; op_bound = (let t = c.if-op-le48.true in omega arith) }

pub returns-then-op-le48 : goal.returns-then-op-le48
returns-then-op-le48 c = builds_as c.bvso.ensures (build-row _ _ _ _ _ (so_row c.args.op c.if-op-le45.false c.if-op-le48.true) ∙ rw (c.nth.ensures, c.nth-2.ensures))

pub zero_extend-requires : goal.zero_extend-requires
unfolding row row_of table
zero_extend-requires c =
    let P = passed_in 49 (let h = c.requires.le_op in let t = c.if-op-le48.false in omega arith) c.requires.ready in
    record { arena = c.requires.ready.arena; fit = rw c.nth.ensures (first_kind _ c.args.xs.now 2 (one-term _ c.args.xs.now P.tests.sorts) P.tests.five, widened (nodes_of c.args.arena.now) (get_or c.args.xs.now 0 0) c.args.par P.tests.six) }

pub returns : goal.returns
unfolding row row_of table
returns c =
    let e : c.args.op ≡ 49 = let h = c.requires.le_op in let t = c.if-op-le48.false in omega arith in
    builds_as c.zero_extend.ensures (build-at _ _ _ _ 49 e ∙ rw c.nth.ensures)
