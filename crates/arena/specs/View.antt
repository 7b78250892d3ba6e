-- What is read of lent cells and a mark.
use Rattle.arena.specs.Nodes.{Nodes}
use Rattle.arena.specs.Cells.{used}
use Rattle.arena.specs.declared.cells.View.{View}

-- the nodes below the mark
abbrev pub nodes_of : View → Nodes
nodes_of v = used v.cells.now v.mark
