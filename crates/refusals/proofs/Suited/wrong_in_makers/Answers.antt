use mathlib.Core.Path.{refl, ap, ap₂}
use Prim.Native.Nat.{ℕ}
use mathlib.Core.Bool.{Bool, not, ◌||◌}
use lib.Dec.{eqb}
use borrow.Author.Tests.{ne_eqb}
use Rattle.arena.specs.View.{nodes_of}
use Rattle.arena.proofs.Chain.{type-kind}
use Rattle.table.specs.Table.{table, row_of, row}
use Rattle.table.proofs.Numbers.{five_makers}
use Rattle.table.proofs.Suits.{rest_cut, type-at, one_sort, gives_type}
use Rattle.refusals.proofs.Suited.wrong_in_makers.Goals as goal

pub bounds-self-0 : goal.bounds-self-0
unfolding row row_of table gives_type one_sort
bounds-self-0 c = (type-at _ 4 c.if-self-eq4.true refl c.args.self.now.suited).many

pub set_free-requires : goal.set_free-requires
unfolding row row_of table gives_type one_sort
set_free-requires c =
    (type-at _ 4 c.if-self-eq4.true refl c.args.self.now.suited).first

pub returns-then-self-eq4 : goal.returns-then-self-eq4
unfolding row row_of table
returns-then-self-eq4 c = rw c.if-self-eq4.true (ap not c.set_free.ensures)

pub bounds-self-0-then-self-eq11 : goal.bounds-self-0-then-self-eq11
unfolding row row_of table gives_type one_sort
bounds-self-0-then-self-eq11 c = (type-at _ 11 c.if-self-eq11.true refl c.args.self.now.suited).many

pub kind_of-requires : goal.kind_of-requires
unfolding row row_of table gives_type one_sort
kind_of-requires c =
    (type-kind _ _ (type-at _ 11 c.if-self-eq11.true refl c.args.self.now.suited).first).0

pub returns-then-self-eq11 : goal.returns-then-self-eq11
unfolding row row_of table
returns-then-self-eq11 c = rw c.if-self-eq11.true (ap (λ (k : ℕ). not (eqb k 2)) c.kind_of.ensures)

pub bounds-self-0-then-self-eq14 : goal.bounds-self-0-then-self-eq14
unfolding row row_of table gives_type one_sort
bounds-self-0-then-self-eq14 c = (type-at _ 14 c.if-self-eq14.true refl c.args.self.now.suited).many

pub set_free-requires-then-self-eq14 : goal.set_free-requires-then-self-eq14
unfolding row row_of table gives_type one_sort
set_free-requires-then-self-eq14 c =
    (type-at _ 14 c.if-self-eq14.true refl c.args.self.now.suited).first

pub bounds-self-0-then-self-eq14-2 : goal.bounds-self-0-then-self-eq14-2
unfolding row row_of table gives_type one_sort
bounds-self-0-then-self-eq14-2 c = (type-at _ 14 c.if-self-eq14.true refl c.args.self.now.suited).many

pub slice_bounds-any_misfits-count : goal.slice_bounds-any_misfits-count
unfolding row row_of table gives_type one_sort
slice_bounds-any_misfits-count c = (type-at _ 14 c.if-self-eq14.true refl c.args.self.now.suited).many

pub slice_bounds-any_misfits-start : goal.slice_bounds-any_misfits-start
unfolding row row_of table gives_type one_sort
slice_bounds-any_misfits-start c = (type-at _ 14 c.if-self-eq14.true refl c.args.self.now.suited).many

pub any_misfits-requires : goal.any_misfits-requires
unfolding row row_of table gives_type one_sort
any_misfits-requires c =
    rw (rest_cut c.args.self.now.xs.now) (type-at _ 14 c.if-self-eq14.true refl c.args.self.now.suited).others

pub returns-then-self-eq14 : goal.returns-then-self-eq14
unfolding row row_of table
returns-then-self-eq14 c = rw (c.if-self-eq14.true, ← rest_cut c.args.self.now.xs.now) (ap₂ (λ (p q : Bool). not p || q) c.set_free-then-self-eq14.ensures c.any_misfits.ensures)

pub returns : goal.returns
returns c =
    rw (five_makers (nodes_of c.args.self.now.nodes) c.args.self.now.xs.now c.args.self.now.op c.requires, ne_eqb c.args.self.now.op 4 c.if-self-eq4.false, ne_eqb c.args.self.now.op 11 c.if-self-eq11.false, ne_eqb c.args.self.now.op 14 c.if-self-eq14.false)
