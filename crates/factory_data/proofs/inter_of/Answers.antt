use Rattle.factory.proofs.Calls.{ready_wf}
use Rattle.arena.proofs.Insertion.{holds-length}
use Rattle.arena.proofs.Known.{set_node}
use Rattle.nodes.proofs.Steps.{builds_as}
use Rattle.factory_data.proofs.inter_of.Goals as goal

pub common-n-requires : goal.common-n-requires
common-n-requires c = rw c.members_of-left.ensures (set_node (ready_wf c.requires) c.args.s.0 c.requires.fit.0).few

pub slice_bounds-term_node-end : goal.slice_bounds-term_node-end
slice_bounds-term_node-end c = holds-length c.common-n.ensures

pub returns : goal.returns
returns c = builds_as c.term_node.ensures (rw (c.type_of-ty.ensures, c.common-n.ensures.front, c.members_of-left.ensures, c.members_of-right.ensures))
