use borrow.Author.Tests.{eq-eqb, ne_eqb}
use lib.Dec.{eqb}
use mathlib.Core.Path.{sym, ◌∙◌}
use Rattle.arena.proofs.Loops.{any_hit, any_miss, any_end}
use Rattle.factory_data.proofs.lists.contains.Goals as goal

pub returns-then-y-x : goal.returns-then-y-x
returns-then-y-x c = sym (c.loop-y.invariant ∙ any_hit (λ y. eqb c.args.x y) c.args.list.now c.loop-y.y-index c.loop-y-test.true (eq-eqb _ _ (sym c.if-y-x.true)))

pub loop-y-preserved : goal.loop-y-preserved
loop-y-preserved c = c.loop-y.invariant ∙ any_miss (λ y. eqb c.args.x y) c.args.list.now c.loop-y.y-index c.loop-y-test.true (ne_eqb _ _ (λ e. c.if-y-x.false (sym e)))

pub returns : goal.returns
returns c = sym (c.loop-y.invariant ∙ any_end (λ y. eqb c.args.x y) c.args.list.now c.loop-y.y-index c.loop-y-test.false)
