use native.Mathlib.Omega.{arith}
use Rattle.arena.proofs.Read.{node-fits, read_type}
use Rattle.arena.proofs.cells.View.type_of.Goals as goal

pub overflow_add-result : goal.overflow_add-result
overflow_add-result c = let f = node-fits c.args.self.now.below c.args.t.0 c.requires in omega arith

pub offset_bounds-self-t : goal.offset_bounds-self-t
offset_bounds-self-t c = let f = node-fits c.args.self.now.below c.args.t.0 c.requires in omega arith

pub bounds-self-t : goal.bounds-self-t
bounds-self-t c = let f = node-fits c.args.self.now.below c.args.t.0 c.requires in omega arith

pub returns : goal.returns
returns c = read_type c.args.self.now.below c.args.t.0 c.requires
