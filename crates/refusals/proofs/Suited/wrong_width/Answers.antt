use native.Mathlib.Omega.{arith}
use borrow.Author.Tests.{ne_eqb}
use Rattle.arena.specs.View.{nodes_of}
use Rattle.table.specs.Table.{table, row_of, row}
use Rattle.table.proofs.Numbers.{six_is}
use Rattle.table.proofs.Suits.{plain-terms, width_small, width_off, width_on, wider}
use Rattle.refusals.proofs.Suited.wrong_width.Goals as goal

pub returns-then-self-lt1 : goal.returns-then-self-lt1
unfolding row row_of table
returns-then-self-lt1 c = rw c.if-self-eq2.true (width_off _ c.if-self-lt1.true)

pub returns-else-self-lt1 : goal.returns-else-self-lt1
unfolding row row_of table
returns-else-self-lt1 c = rw c.if-self-eq2.true (width_on _ c.if-self-lt1.false)

pub first_width-requires : goal.first_width-requires
first_width-requires c =
    plain-terms _ (omega arith) (omega arith) c.args.self.now.suited

pub overflow_sub-result : goal.overflow_sub-result
overflow_sub-result c =
    rw c.first_width.ensures (width_small c.args.self.now.nodes.below c.args.self.now.op c.args.self.now.xs.now c.if-self-eq49.true c.requires)

pub returns-then-self-eq49 : goal.returns-then-self-eq49
unfolding row row_of table
returns-then-self-eq49 c =
    let w = width_small c.args.self.now.nodes.below c.args.self.now.op c.args.self.now.xs.now c.if-self-eq49.true c.requires in
    rw (c.if-self-eq49.true, c.first_width.ensures) (wider _ c.args.self.now.par w)

pub returns : goal.returns
returns c =
    rw (six_is (nodes_of c.args.self.now.nodes) c.args.self.now.xs.now c.args.self.now.par c.args.self.now.op c.args.self.now.known, ne_eqb c.args.self.now.op 2 c.if-self-eq2.false, ne_eqb c.args.self.now.op 49 c.if-self-eq49.false)
