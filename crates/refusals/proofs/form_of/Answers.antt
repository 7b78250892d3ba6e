use borrow.Author.Tests.{eq-eqb, ne_eqb}
use Rattle.table.proofs.Numbers.{shape_is}
use Rattle.refusals.proofs.form_of.Goals as goal

pub returns-then-op : goal.returns-then-op
returns-then-op c =
    rw (shape_is c.args.op c.requires, c.if-op.true)

pub returns-then-op-2 : goal.returns-then-op-2
returns-then-op-2 c =
    rw (shape_is c.args.op c.requires, c.if-op.false, c.if-op-2.true)

pub returns-then-op-3 : goal.returns-then-op-3
returns-then-op-3 c =
    rw (shape_is c.args.op c.requires, c.if-op.false, c.if-op-2.false, c.if-op-3.true)

pub returns-then-op-4 : goal.returns-then-op-4
returns-then-op-4 c =
    rw (shape_is c.args.op c.requires, c.if-op.false, c.if-op-2.false, c.if-op-3.false, c.if-op-4.true)

pub returns-then-op-5 : goal.returns-then-op-5
returns-then-op-5 c =
    rw (shape_is c.args.op c.requires, c.if-op.false, c.if-op-2.false, c.if-op-3.false, c.if-op-4.false, c.if-op-5.true)

pub returns-then-op-eq25 : goal.returns-then-op-eq25
returns-then-op-eq25 c =
    rw (shape_is c.args.op c.requires, c.if-op.false, c.if-op-2.false, c.if-op-3.false, c.if-op-4.false, c.if-op-5.false, eq-eqb c.args.op 25 c.if-op-eq25.true)

pub returns : goal.returns
returns c =
    rw (shape_is c.args.op c.requires, c.if-op.false, c.if-op-2.false, c.if-op-3.false, c.if-op-4.false, c.if-op-5.false, ne_eqb c.args.op 25 c.if-op-eq25.false)
