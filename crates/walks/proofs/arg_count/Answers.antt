use Rattle.arena.specs.Nodes.{node_at}
use Rattle.arena.specs.View.{nodes_of}
use Rattle.arena.proofs.Read.{count-odds, count-all}
use Rattle.walks.proofs.arg_count.Goals as goal

pub returns-then-has_fields : goal.returns-then-has_fields
returns-then-has_fields c =
    count-odds (node_at (nodes_of c.args.nodes.now) c.args.at) c.kind_of.ensures c.members_of-n.ensures c.has_fields.ensures c.if-has_fields.true

pub returns : goal.returns
returns c =
    count-all (node_at (nodes_of c.args.nodes.now) c.args.at) c.kind_of.ensures c.members_of-n.ensures c.has_fields.ensures c.if-has_fields.false
