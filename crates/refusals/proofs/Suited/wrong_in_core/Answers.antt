use mathlib.Core.Path.{◌≡◌, refl, sym, ap₂, ◌∙◌}
use native.Mathlib.Omega.{arith}
use mathlib.Core.Bool.{◌||◌}
use Rattle.arena.specs.View.{nodes_of}
use Rattle.arena.proofs.Runs.{all_get}
use Rattle.table.specs.Table.{table, row_of, row}
use Rattle.table.proofs.Numbers.{five_core, five_ite}
use Rattle.table.proofs.Suits.{core_terms, terms_of, only_terms, terms-at}
use Rattle.refusals.proofs.Suited.wrong_in_core.Goals as goal

pub any_misfits-requires : goal.any_misfits-requires
any_misfits-requires c =
    (core_terms _ c.requires.0 (omega arith) c.args.self.now.suited).each

pub returns-then-self-le23 : goal.returns-then-self-le23
returns-then-self-le23 c = c.any_misfits.ensures ∙ sym (five_core _ _ _ c.requires.0 c.if-self-le23.true)

pub bounds-self-0 : goal.bounds-self-0
unfolding row row_of table terms_of only_terms
bounds-self-0 c = let m = (terms-at _ 24 2 c.if-self-eq24.true refl c.args.self.now.suited).many in omega arith

pub bounds-self-1 : goal.bounds-self-1
unfolding row row_of table terms_of only_terms
bounds-self-1 c = let m = (terms-at _ 24 2 c.if-self-eq24.true refl c.args.self.now.suited).many in omega arith

pub differ-requires : goal.differ-requires
unfolding row row_of table terms_of only_terms
differ-requires c =
    let t = terms-at _ 24 2 c.if-self-eq24.true refl c.args.self.now.suited in let m = t.many in record { x_value = all_get _ _ t.each 0 (omega arith); y_value = all_get _ _ t.each 1 (omega arith) }

pub returns-then-self-eq24 : goal.returns-then-self-eq24
unfolding row row_of table
returns-then-self-eq24 c = rw c.if-self-eq24.true c.differ.ensures

pub first_misfits-requires : goal.first_misfits-requires
first_misfits-requires c =
    core_terms _ c.requires.0 (omega arith) c.args.self.now.suited

pub bounds-self-1-then-self-eq25 : goal.bounds-self-1-then-self-eq25
unfolding row row_of table terms_of only_terms
bounds-self-1-then-self-eq25 c = let m = (terms-at _ 25 3 c.if-self-eq25.true refl c.args.self.now.suited).many in omega arith

pub bounds-self-2 : goal.bounds-self-2
unfolding row row_of table terms_of only_terms
bounds-self-2 c = let m = (terms-at _ 25 3 c.if-self-eq25.true refl c.args.self.now.suited).many in omega arith

pub differ-requires-then-self-eq25 : goal.differ-requires-then-self-eq25
unfolding row row_of table terms_of only_terms
differ-requires-then-self-eq25 c =
    let t = terms-at _ 25 3 c.if-self-eq25.true refl c.args.self.now.suited in let m = t.many in record { x_value = all_get _ _ t.each 1 (omega arith); y_value = all_get _ _ t.each 2 (omega arith) }

pub returns-then-self-eq25 : goal.returns-then-self-eq25
returns-then-self-eq25 c =
    rw c.if-self-eq25.true (ap₂ ◌||◌ c.first_misfits.ensures c.differ-then-self-eq25.ensures ∙ sym (five_ite (nodes_of c.args.self.now.nodes) c.args.self.now.xs.now))

pub returns : goal.returns
unfolding row row_of table
returns c = let e : c.args.self.now.op ≡ 26 = omega arith in rw e
