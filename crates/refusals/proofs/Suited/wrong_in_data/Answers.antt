use mathlib.Core.Path.{refl}
use native.Mathlib.Omega.{arith}
use borrow.Author.Tests.{ne_eqb}
use Rattle.arena.specs.View.{nodes_of}
use Rattle.arena.proofs.Runs.{all_get}
use Rattle.table.specs.Table.{table, row_of, row}
use Rattle.table.proofs.Numbers.{five_data}
use Rattle.table.proofs.Suits.{plain-terms, terms_of, only_terms, terms-at}
use Rattle.refusals.proofs.Suited.wrong_in_data.Goals as goal

pub bounds-self-0 : goal.bounds-self-0
unfolding row row_of table terms_of only_terms
bounds-self-0 c = let m = (terms-at _ 50 2 c.if-self-eq50.true refl c.args.self.now.suited).many in omega arith

pub bounds-self-1 : goal.bounds-self-1
unfolding row row_of table terms_of only_terms
bounds-self-1 c = let m = (terms-at _ 50 2 c.if-self-eq50.true refl c.args.self.now.suited).many in omega arith

pub no_member-requires : goal.no_member-requires
unfolding row row_of table terms_of only_terms
no_member-requires c =
    let t = terms-at _ 50 2 c.if-self-eq50.true refl c.args.self.now.suited in let m = t.many in record { x_value = all_get _ _ t.each 0 (omega arith); y_value = all_get _ _ t.each 1 (omega arith) }

pub returns-then-self-eq50 : goal.returns-then-self-eq50
unfolding row row_of table
returns-then-self-eq50 c = rw c.if-self-eq50.true c.no_member.ensures

pub first_misfits-requires : goal.first_misfits-requires
first_misfits-requires c =
    plain-terms _ (omega arith) c.requires.1 c.args.self.now.suited

pub returns-then-self-eq53 : goal.returns-then-self-eq53
unfolding row row_of table
returns-then-self-eq53 c = rw c.if-self-eq53.true c.first_misfits.ensures

pub first_misfits-requires-then-self-eq55 : goal.first_misfits-requires-then-self-eq55
first_misfits-requires-then-self-eq55 c =
    plain-terms _ (omega arith) c.requires.1 c.args.self.now.suited

pub returns-then-self-eq55 : goal.returns-then-self-eq55
unfolding row row_of table
returns-then-self-eq55 c = rw c.if-self-eq55.true c.first_misfits-then-self-eq55.ensures

pub first_misfits-requires-then-self-eq56 : goal.first_misfits-requires-then-self-eq56
first_misfits-requires-then-self-eq56 c =
    plain-terms _ (omega arith) c.requires.1 c.args.self.now.suited

pub returns-then-self-eq56 : goal.returns-then-self-eq56
unfolding row row_of table
returns-then-self-eq56 c = rw c.if-self-eq56.true c.first_misfits-then-self-eq56.ensures

pub not_alike-requires : goal.not_alike-requires
not_alike-requires c =
    plain-terms _ (omega arith) c.requires.1 c.args.self.now.suited

pub returns : goal.returns
returns c =
    rw (five_data (nodes_of c.args.self.now.nodes) c.args.self.now.xs.now c.args.self.now.op c.requires.0 c.requires.1, ne_eqb c.args.self.now.op 50 c.if-self-eq50.false, ne_eqb c.args.self.now.op 53 c.if-self-eq53.false, ne_eqb c.args.self.now.op 55 c.if-self-eq55.false, ne_eqb c.args.self.now.op 56 c.if-self-eq56.false) c.not_alike.ensures
