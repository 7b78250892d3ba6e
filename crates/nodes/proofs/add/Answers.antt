use mathlib.Core.Path.{◌∙◌}
use lib.ListN.{length-set}
use Rattle.arena.proofs.Stretch.{stored}
use Rattle.nodes.proofs.add.Goals as goal

pub shape_of-cells : goal.shape_of-cells
shape_of-cells c = c.copy_in.auto.cells ∙ simp length-set

pub returns : goal.returns
returns c =
    let a = c.args in let n = a.node.now in
    c.copy_in.ensures ∙ stored a.cells.now a.mark n.kind n.ty n.par n.members.now c.requires
