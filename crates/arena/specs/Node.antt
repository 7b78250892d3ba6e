-- A node by its cells.
use Rattle.arena.specs.Nodes.{node, Node as ListNode}
use Rattle.arena.specs.declared.Node.{Node}

abbrev pub node_of : Node → ListNode
node_of n = node n.kind n.ty n.par n.members.now
