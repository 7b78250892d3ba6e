use Rattle.node_tests.proofs.Stands.{none_past, none_there, own_slot, look_fits, look_cell}
use Rattle.node_tests.proofs.looks.Seen.look.Goals as goal

pub returns-then-p-self : goal.returns-then-p-self
returns-then-p-self c = none_past c.args.self.now.nodes.below c.args.self.now.known c.args.p c.if-p-self.true c.args.j

pub bounds-self-i : goal.bounds-self-i
bounds-self-i c = own_slot c.args.self.now.nodes.below c.args.self.now.known c.args.p c.if-p-self.false

pub returns-then-self-i : goal.returns-then-self-i
returns-then-self-i c = none_there c.args.self.now.nodes.below c.args.self.now.known c.args.p c.if-self-i.true c.args.j

pub bounds-self-i-2 : goal.bounds-self-i-2
bounds-self-i-2 c = look_fits c.args.self.now.nodes.below c.args.self.now.known c.args.p c.if-self-i.false c.args.j c.requires

pub returns : goal.returns
returns c = look_cell c.args.self.now.nodes.below c.args.self.now.known c.args.p c.if-self-i.false c.args.j c.requires
