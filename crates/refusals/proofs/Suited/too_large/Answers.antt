use mathlib.Core.Path.{refl, sym, ap, ap₂, ◌∙◌}
use Prim.Native.Nat.{ℕ, ◌^◌}
use mathlib.Core.Bool.{Bool, not, ◌&&◌}
use lib.Dec.{ltb}
use borrow.Author.Tests.{ne_eqb}
use Rattle.arena.specs.View.{nodes_of}
use Rattle.arena.proofs.Chain.{type-kind}
use Rattle.table.specs.Table.{table, row_of, row}
use Rattle.table.proofs.Numbers.{seven_is}
use Rattle.table.proofs.Suits.{type-at, one_sort, gives_type, not_below}
use Rattle.refusals.proofs.Suited.too_large.Goals as goal

pub returns-then-self-eq5 : goal.returns-then-self-eq5
unfolding row row_of table
returns-then-self-eq5 c = rw c.if-self-eq5.true (ap₂ (λ (p q : Bool). not (p && q)) c.keys_small.ensures c.rises.ensures)

pub returns-then-self : goal.returns-then-self
returns-then-self c =
    rw (seven_is (nodes_of c.args.self.now.nodes) c.args.self.now.xs.now c.args.self.now.par c.args.self.now.op c.args.self.now.known, ne_eqb c.args.self.now.op 5 c.if-self-eq5.false, c.if-self.true) (ap not c.keys_small-then-self.ensures)

pub returns-then-self-eq10 : goal.returns-then-self-eq10
unfolding row row_of table
returns-then-self-eq10 c = rw c.if-self-eq10.true

pub bounds-self-0 : goal.bounds-self-0
unfolding row row_of table gives_type one_sort
bounds-self-0 c = (type-at _ 11 c.if-self-eq11.true refl c.args.self.now.suited).many

pub par_of-requires : goal.par_of-requires
unfolding row row_of table gives_type one_sort
par_of-requires c =
    (type-kind _ _ (type-at _ 11 c.if-self-eq11.true refl c.args.self.now.suited).first).0

pub returns-then-self-eq11 : goal.returns-then-self-eq11
unfolding row row_of table
returns-then-self-eq11 c =
    rw c.if-self-eq11.true (ap not (c.fits_width.ensures ∙ ap (λ (w : ℕ). ltb c.args.self.now.par (2 ^ w)) c.par_of.ensures) ∙ not_below c.args.self.now.par _)

pub returns-then-self-2 : goal.returns-then-self-2
returns-then-self-2 c =
    rw (seven_is (nodes_of c.args.self.now.nodes) c.args.self.now.xs.now c.args.self.now.par c.args.self.now.op c.args.self.now.known, ne_eqb c.args.self.now.op 5 c.if-self-eq5.false, c.if-self.false, ne_eqb c.args.self.now.op 10 c.if-self-eq10.false, ne_eqb c.args.self.now.op 11 c.if-self-eq11.false, c.if-self-2.true) (sym (not_below c.args.self.now.par 4294967296))

pub returns : goal.returns
returns c =
    rw (seven_is (nodes_of c.args.self.now.nodes) c.args.self.now.xs.now c.args.self.now.par c.args.self.now.op c.args.self.now.known, ne_eqb c.args.self.now.op 5 c.if-self-eq5.false, c.if-self.false, ne_eqb c.args.self.now.op 10 c.if-self-eq10.false, ne_eqb c.args.self.now.op 11 c.if-self-eq11.false, c.if-self-2.false)
