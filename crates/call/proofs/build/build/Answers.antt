use Rattle.table.proofs.Dispatch.{accepted-known, a_type}
use Rattle.nodes.specs.Builds.{nodes_of}
use Rattle.call.proofs.build.build.Goals as goal

pub build_type-requires-clause-le_op : goal.build_type-requires-clause-le_op
build_type-requires-clause-le_op c =
    a_type c.args.op (accepted-known (nodes_of c.args.arena.now) c.args.op c.args.par c.args.xs.now c.requires.fit) c.if-op-lt10.true
