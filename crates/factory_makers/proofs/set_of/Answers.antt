use Rattle.factory.specs.Makers.{set_of}
use Rattle.factory.proofs.Calls.{ready_wf}
use Rattle.arena.proofs.Insertion.{holds-length}
use Rattle.nodes.proofs.Steps.{builds_as}
use Rattle.arena.proofs.View.{is_set}
use Rattle.arena.proofs.Whole.{good_is}
use Rattle.factory_makers.proofs.set_of.Goals as goal

pub slice_bounds-typed_node-end-2 : goal.slice_bounds-typed_node-end-2
slice_bounds-typed_node-end-2 c = holds-length c.sorted-n.ensures

pub typed_node-requires : goal.typed_node-requires
typed_node-requires c = record { arena = c.requires.ready.arena; tmembers_value = good_is (ready_wf c.requires.ready) (is_set _ c.requires.ready.fit.0 c.requires.ready.fit.1) }

pub returns : goal.returns
unfolding set_of
returns c = builds_as c.typed_node.ensures (rw c.sorted-n.ensures.front)
