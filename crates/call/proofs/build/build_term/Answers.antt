use Rattle.table.proofs.Dispatch.{accepted-known, from_core, from_bitvectors, from_helpers, from_compiled}
use Rattle.nodes.specs.Builds.{nodes_of}
use Rattle.call.proofs.build.build_term.Goals as goal

pub build_core-requires : goal.build_core-requires
build_core-requires c = let k = accepted-known (nodes_of c.args.arena.now) c.args.op c.args.par c.args.xs.now c.requires.ready.fit in record { ready = c.requires.ready; le_op = (from_core c.args.op k c.if-op-le16.false, c.if-op-le26.true) }

pub build_bitvector-requires : goal.build_bitvector-requires
build_bitvector-requires c = let k = accepted-known (nodes_of c.args.arena.now) c.args.op c.args.par c.args.xs.now c.requires.ready.fit in record { ready = c.requires.ready; le_op = (from_bitvectors c.args.op k c.if-op-le26.false, c.if-op-le49.true) }

pub build_helper-requires : goal.build_helper-requires
build_helper-requires c = let k = accepted-known (nodes_of c.args.arena.now) c.args.op c.args.par c.args.xs.now c.requires.ready.fit in record { ready = c.requires.ready; le_op = (from_helpers c.args.op k c.if-op-le56.false, c.if-op-le66.true) }

pub build_compiled-requires : goal.build_compiled-requires
build_compiled-requires c = let k = accepted-known (nodes_of c.args.arena.now) c.args.op c.args.par c.args.xs.now c.requires.ready.fit in record { ready = c.requires.ready; le_op = from_compiled c.args.op k c.if-op-le66.false }
