use Rattle.arena.specs.Values.{tbool}
use Rattle.nodes.proofs.Steps.{builds_then, term_stop}
use Rattle.factory.specs.Fit.{Typed}
use Rattle.factory.specs.Core.{not_t}
use Rattle.factory.specs.Helpers.{is_some}
use Rattle.factory.proofs.Logic.{not_law}
use Rattle.factory.proofs.Options.{is_none_law}
use Rattle.factory.proofs.Calls.{ready_wf, ready_next}
use Rattle.factory.proofs.Operands.{opt_of}
use Rattle.factory_helpers.proofs.is_some.Goals as goal

pub not-requires : goal.not-requires
not-requires c =
    let s = c.requires in
    let w = ready_wf s in
    let l = is_none_law w c.args.t.0 (opt_of w c.args.t.0 s.fit) in
    ready_next (λ a n. Typed a tbool n) c.args.arena.now _ c.in_ok-n.ensures s.arena l.wf l.typed

pub returns : goal.returns
unfolding is_some
returns c =
    builds_then c.args.arena.now _ c.in_ok-n.ensures not_t c.not.ensures

pub returns-in_err-n : goal.returns-in_err-n
unfolding is_some
returns-in_err-n c =
    let s = c.requires in
    let w = ready_wf s in
    let l = is_none_law w c.args.t.0 (opt_of w c.args.t.0 s.fit) in
    term_stop c.args.arena.now _ c.from_residual.result c.from_residual.ensures.0 c.in_err-n.ensures (not_law l.wf _ l.typed).ext
