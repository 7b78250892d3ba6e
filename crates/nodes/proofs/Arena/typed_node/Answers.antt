use Rattle.arena.specs.Nodes.{node, put}
use Rattle.arena.proofs.Put.{put_wf}
use Rattle.arena.proofs.Steps.{put_ext}
use Rattle.nodes.proofs.Steps.{formed_wf, next_formed, builds_then, term_stop}
use Rattle.nodes.proofs.Arena.typed_node.Goals as goal

pub returns-in_err-ty : goal.returns-in_err-ty
returns-in_err-ty c = term_stop c.args.self.now _ c.from_residual.result c.from_residual.ensures.0 c.in_err-ty.ensures (put_ext _ _)

pub term_node-requires : goal.term_node-requires
term_node-requires c = next_formed c.args.self.now _ c.in_ok-ty.ensures c.requires.arena (put_wf (formed_wf c.args.self.now c.requires.arena) _ c.requires.tmembers_value)

pub returns : goal.returns
returns c = builds_then c.args.self.now _ c.in_ok-ty.ensures (λ b t. put b (node c.args.kind t c.args.par c.args.members.now)) c.term_node.ensures
