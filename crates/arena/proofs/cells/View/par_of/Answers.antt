use native.Mathlib.Omega.{arith}
use Rattle.arena.proofs.Read.{node-fits, read_par}
use Rattle.arena.proofs.cells.View.par_of.Goals as goal

pub overflow_add-result : goal.overflow_add-result
overflow_add-result c = let f = node-fits c.args.self.now.below c.args.p c.requires in omega arith

pub offset_bounds-self-p : goal.offset_bounds-self-p
offset_bounds-self-p c = let f = node-fits c.args.self.now.below c.args.p c.requires in omega arith

pub bounds-self-p : goal.bounds-self-p
bounds-self-p c = let f = node-fits c.args.self.now.below c.args.p c.requires in omega arith

pub returns : goal.returns
returns c = read_par c.args.self.now.below c.args.p c.requires
