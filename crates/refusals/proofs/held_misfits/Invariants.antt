use Rattle.std.proofs.Common.{◌≡◌, true}
use Rattle.std.specs.Slice.Iter.{chunks_exact_rest, chunks_exact_size}
use Rattle.arena.specs.Lists.{all, any, odds}
use Rattle.arena.specs.View.{nodes_of}
use Rattle.arena.specs.WellFormed.{is_term}
use Rattle.table.specs.Forms.{misfit}
use Rattle.refusals.proofs.held_misfits.Given as goal

abbrev pub invariant-loop-pair : goal.invariant-loop-pair
invariant-loop-pair l = record {
  can : (goal.iterator-loop-pair).can_next l.pair-iterator;
  ends : (goal.iterator-loop-pair).is_finite l.pair-iterator;
  pairs : chunks_exact_size l.pair-iterator ≡ 2;
  left : any (misfit (nodes_of l.nodes) l.named) (odds l.pairs) ≡ any (misfit (nodes_of l.nodes) l.named) (odds (chunks_exact_rest l.pair-iterator));
  terms : all (is_term (nodes_of l.nodes)) (odds (chunks_exact_rest l.pair-iterator)) ≡ true;
}
