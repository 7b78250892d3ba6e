use Rattle.std.proofs.Common.{◌≡◌}
use Rattle.std.specs.Slice.Iter.{chunks_exact_rest, chunks_exact_size}
use Rattle.arena.specs.Lists.{field}
use Rattle.runs.proofs.field.Given as goal

abbrev pub invariant-loop-pair : goal.invariant-loop-pair
invariant-loop-pair l = record {
  can : (goal.iterator-loop-pair).can_next l.pair-iterator;
  ends : (goal.iterator-loop-pair).is_finite l.pair-iterator;
  pairs : chunks_exact_size l.pair-iterator ≡ 2;
  left : field l.run l.k ≡ field (chunks_exact_rest l.pair-iterator) l.k;
}
