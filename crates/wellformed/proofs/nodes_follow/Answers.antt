use Rattle.std.proofs.Common.{sym, ◌∙◌, arith}
use lib.ListN.{length-set}
use Rattle.arena.proofs.Tiling.{next-below}
use Rattle.arena.proofs.Lent.{next-starts}
use Rattle.node_tests.proofs.Steps.{bad-room, bad_good, bad_new, at_end}
use Rattle.wellformed.proofs.nodes_follow.Goals as goal
use Rattle.wellformed.proofs.nodes_follow.Goals.{then-not-good_node-via-then-not-good_node, then-not-good_node-via-else-not-good_node+then-not-is_new}

pub returns-then-mark-q-lt4 : goal.returns-then-mark-q-lt4
returns-then-mark-q-lt4 c = bad-room c.loop-q.invariant.below c.loop-q-test.true (λ f. omega arith)

pub returns-then-n-mark : goal.returns-then-n-mark
returns-then-n-mark c = bad-room c.loop-q.invariant.below c.loop-q-test.true (λ f. omega arith)

pub returns-then-not-good_node : goal.returns-then-not-good_node
returns-then-not-good_node c =
    let b = c.loop-q.invariant.below in
    elim c.then-not-good_node.branch [
      | then-not-good_node-via-then-not-good_node w ↦ bad_good b c.loop-q-test.true _ c.good_node.ensures w.if-not-good_node.true
      | then-not-good_node-via-else-not-good_node+then-not-is_new w ↦ bad_new b c.loop-q-test.true _ w.is_new.ensures w.if-not-is_new.true
    ]

pub loop-q-preserved : goal.loop-q-preserved
loop-q-preserved c =
    let i = c.loop-q.invariant in
    let good = sym c.good_node.ensures ∙ c.if-not-good_node.false in
    let new = sym c.is_new.ensures ∙ c.if-not-is_new.false in
    record {
      below = next-below i.below (omega arith) good new;
      starts = next-starts i.below (omega arith) good i.starts (omega arith);
      from = omega arith;
      to = omega arith;
      fits = i.fits;
      short = i.short;
      kept = simp length-set i.kept;
      long = simp length-set i.long;
    }

pub returns : goal.returns
returns c = at_end c.requires c.loop-q.invariant.below (omega arith)
