use Rattle.std.proofs.Common.{◌≡◌, ◌≤◌}
use Rattle.std.specs.Slice.Iter.{chunks_exact_rest, chunks_exact_size}
use Rattle.arena.specs.Lists.{all, odds}
use Rattle.arena.specs.Nodes.{kind_at}
use Rattle.arena.specs.View.{nodes_of}
use Rattle.table.specs.Call.{sort_ok}
use Rattle.table.specs.Forms.{sort}
use Rattle.refusals.proofs.all_held.Given as goal

abbrev pub invariant-loop-pair : goal.invariant-loop-pair
invariant-loop-pair l = record {
  can : (goal.iterator-loop-pair).can_next l.pair-iterator;
  ends : (goal.iterator-loop-pair).is_finite l.pair-iterator;
  pairs : chunks_exact_size l.pair-iterator ≡ 2;
  left : all (sort_ok (nodes_of l.nodes) (sort l.typed)) (odds l.pairs) ≡ all (sort_ok (nodes_of l.nodes) (sort l.typed)) (odds (chunks_exact_rest l.pair-iterator));
  foot : 1 ≤ kind_at (nodes_of l.nodes) l.foot;
}
