use mathlib.Core.Path.{sym, ◌∙◌}
use native.Mathlib.Omega.{arith}
use borrow.Author.Tests.{le-leb, lt-leb}
use Rattle.arena.specs.View.{nodes_of}
use Rattle.arena.specs.WellFormed.{is_term}
use Rattle.arena.proofs.Loops.{all_hit, all_miss, all_end}
use Rattle.refusals.proofs.all_terms.Goals as goal

pub returns-then-kind_from-lt16 : goal.returns-then-kind_from-lt16
returns-then-kind_from-lt16 c =
    let k = c.kind_from.ensures in
    sym (c.loop-x.invariant.0 ∙ all_miss (is_term (nodes_of c.args.nodes.now)) _ c.loop-x.x-index c.loop-x-test.true (lt-leb 16 _ (omega arith)))

pub loop-x-preserved : goal.loop-x-preserved
loop-x-preserved c =
    let k = c.kind_from.ensures in
    (c.loop-x.invariant.0 ∙ all_hit (is_term (nodes_of c.args.nodes.now)) _ c.loop-x.x-index c.loop-x-test.true (le-leb 16 _ (omega arith)), omega arith)

pub returns : goal.returns
returns c = sym (c.loop-x.invariant.0 ∙ all_end (is_term (nodes_of c.args.nodes.now)) _ c.loop-x.x-index c.loop-x-test.false)
