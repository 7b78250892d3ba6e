use lib.Seq.{length-take-le}
use mathlib.Core.List.{[]}
use mathlib.Core.Path.{refl, sym}
use native.Mathlib.Omega.{arith}
use Rattle.factory.specs.Makers.{record_of}
use Rattle.factory.proofs.Calls.{ready_wf}
use Rattle.factory.proofs.Listed.{fields_even, record_type_good}
use Rattle.factory.proofs.Picks.{types_front}
use Rattle.arena.specs.Lists.{all, odds}
use Rattle.arena.proofs.Fields.{fields_of-all}
use Rattle.arena.proofs.Insertion.{holds-length}
use Rattle.nodes.proofs.Steps.{builds_as}
use Rattle.factory_makers.proofs.record_of.Goals as goal

pub slice_bounds-field_types-end : goal.slice_bounds-field_types-end
slice_bounds-field_types-end c = holds-length c.fields-n.ensures

pub field_types-requires : goal.field_types-requires
unfolding all odds
field_types-requires c =
    let w = ready_wf c.requires.ready in
    let h = c.fields-n.ensures in
    record { ready = record { arena = c.requires.ready.arena; fit = rw h.front (fields_of-all _ [] c.args.list.now refl c.requires.ready.fit.0) }; run_len = rw h.front (fields_even c.args.list.now c.requires.list_len_bound c.requires.ready.fit.1); run_in_bounds = (let f = holds-length h in let g = h.fits in omega arith) }

pub slice_bounds-typed_node-end : goal.slice_bounds-typed_node-end
slice_bounds-typed_node-end c = sym (length-take-le _ _ (let h = holds-length c.fields-n.ensures in let g = c.field_types.ensures.fits in omega arith))

pub slice_bounds-typed_node-end-2 : goal.slice_bounds-typed_node-end-2
slice_bounds-typed_node-end-2 c = holds-length c.fields-n.ensures

pub typed_node-requires : goal.typed_node-requires
typed_node-requires c =
    let w = ready_wf c.requires.ready in
    let h = c.fields-n.ensures in
    record { arena = c.requires.ready.arena; tmembers_value = rw (types_front _ h c.field_types.ensures) (record_type_good w c.args.list.now c.requires.list_len_bound c.requires.ready.fit.1 c.requires.ready.fit.0) }

pub returns : goal.returns
unfolding record_of
returns c = builds_as c.typed_node.ensures (rw (types_front _ c.fields-n.ensures c.field_types.ensures, c.fields-n.ensures.front))
