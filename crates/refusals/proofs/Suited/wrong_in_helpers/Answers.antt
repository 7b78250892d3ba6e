use mathlib.Core.Path.{refl}
use native.Mathlib.Omega.{arith}
use borrow.Author.Tests.{ne_eqb}
use Rattle.arena.specs.View.{nodes_of}
use Rattle.table.specs.Table.{table, row_of, row}
use Rattle.table.proofs.Numbers.{five_helpers}
use Rattle.table.proofs.Suits.{helper_terms, terms_of, only_terms, terms-at, rest_cut, terms-rest}
use Rattle.refusals.proofs.Suited.wrong_in_helpers.Goals as goal

pub any_misfits-requires : goal.any_misfits-requires
unfolding row row_of table terms_of only_terms
any_misfits-requires c =
    (terms-at _ 65 0 c.if-self-eq65.true refl c.args.self.now.suited).each

pub returns-then-self-eq65 : goal.returns-then-self-eq65
unfolding row row_of table
returns-then-self-eq65 c = rw c.if-self-eq65.true c.any_misfits.ensures

pub slice_bounds-any_misfits-count : goal.slice_bounds-any_misfits-count
unfolding row row_of table terms_of only_terms
slice_bounds-any_misfits-count c = (terms-at _ 66 1 c.if-self-eq66.true refl c.args.self.now.suited).many

pub slice_bounds-any_misfits-start : goal.slice_bounds-any_misfits-start
unfolding row row_of table terms_of only_terms
slice_bounds-any_misfits-start c = (terms-at _ 66 1 c.if-self-eq66.true refl c.args.self.now.suited).many

pub any_misfits-requires-then-self-eq66 : goal.any_misfits-requires-then-self-eq66
unfolding row row_of table terms_of only_terms
any_misfits-requires-then-self-eq66 c =
    rw (rest_cut c.args.self.now.xs.now) (terms-rest _ (terms-at _ 66 1 c.if-self-eq66.true refl c.args.self.now.suited))

pub returns-then-self-eq66 : goal.returns-then-self-eq66
unfolding row row_of table
returns-then-self-eq66 c = rw (c.if-self-eq66.true, ← rest_cut c.args.self.now.xs.now) c.any_misfits-then-self-eq66.ensures

pub first_misfits-requires : goal.first_misfits-requires
first_misfits-requires c =
    helper_terms _ c.requires.0 (omega arith) c.args.self.now.suited

pub returns-then-self : goal.returns-then-self
returns-then-self c =
    rw (five_helpers (nodes_of c.args.self.now.nodes) c.args.self.now.xs.now c.args.self.now.op c.requires.0 c.requires.1, ne_eqb c.args.self.now.op 65 c.if-self-eq65.false, ne_eqb c.args.self.now.op 66 c.if-self-eq66.false, c.if-self.true) c.first_misfits.ensures

pub first_misfits-requires-2 : goal.first_misfits-requires-2
first_misfits-requires-2 c =
    helper_terms _ c.requires.0 (omega arith) c.args.self.now.suited

pub returns : goal.returns
returns c =
    rw (five_helpers (nodes_of c.args.self.now.nodes) c.args.self.now.xs.now c.args.self.now.op c.requires.0 c.requires.1, ne_eqb c.args.self.now.op 65 c.if-self-eq65.false, ne_eqb c.args.self.now.op 66 c.if-self-eq66.false, c.if-self.false) c.first_misfits-2.ensures
