use Rattle.std.proofs.Common.{◌≡◌, ◌/◌, ◌*◌, length}
use Rattle.std.specs.Iterator.Adapters.{zip_first, zip_second}
use Rattle.std.specs.Slice.Iter.{chunks_exact_rest, chunks_exact_size}
use Rattle.arena.specs.Lists.{same_list}
use Rattle.arena.specs.Nodes.{field_types}
use Rattle.arena.specs.View.{nodes_of}
use Rattle.node_tests.proofs.looks.Seen.fields_typed.Given as goal

abbrev pub invariant-loop-ty : goal.invariant-loop-ty
invariant-loop-ty l =
    let types = zip_first l.ty-iterator in
    let fields = zip_second l.ty-iterator in
    record {
      can : (goal.iterator-loop-ty).can_next l.ty-iterator;
      ends : (goal.iterator-loop-ty).is_finite l.ty-iterator;
      pairs : chunks_exact_size types ≡ 2;
      pairs_too : chunks_exact_size fields ≡ 2;
      long : length (chunks_exact_rest types) ≡ length (chunks_exact_rest fields) / 2 * 2;
      left : same_list l.types (field_types (nodes_of l.self.nodes) l.run) ≡ same_list (chunks_exact_rest types) (field_types (nodes_of l.self.nodes) (chunks_exact_rest fields));
    }
