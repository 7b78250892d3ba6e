use Rattle.factory.specs.Core.{or_t}
use Rattle.factory.specs.Fit.{Typed}
use Rattle.factory.specs.Helpers.{or_is_none}
use Rattle.factory.proofs.Calls.{ready_wf, ready_next}
use Rattle.factory.proofs.Law.{typed_ext}
use Rattle.factory.proofs.Logic.{or_law}
use Rattle.factory.proofs.Operands.{opt_of}
use Rattle.factory.proofs.Options.{is_none_law}
use Rattle.arena.specs.Values.{tbool}
use Rattle.nodes.proofs.Steps.{builds_then, term_stop}
use Rattle.factory_helpers.proofs.or_is_none.Goals as goal

pub or-requires : goal.or-requires
or-requires c =
    let s = c.requires in
    let w = ready_wf s in
    let l = is_none_law w c.args.g.0 (opt_of w c.args.g.0 s.fit.0) in
    ready_next (λ a n. Typed a tbool n × Typed a tbool c.args.acc.0) c.args.arena.now _ c.in_ok-n.ensures s.arena l.wf
    (l.typed, typed_ext w l.ext s.fit.1)

pub returns : goal.returns
unfolding or_is_none
returns c = builds_then c.args.arena.now _ c.in_ok-n.ensures (λ b n. or_t b n c.args.acc.0) c.or.ensures

pub returns-in_err-n : goal.returns-in_err-n
unfolding or_is_none
returns-in_err-n c =
    let s = c.requires in
    let w = ready_wf s in
    let l = is_none_law w c.args.g.0 (opt_of w c.args.g.0 s.fit.0) in
    term_stop c.args.arena.now _ c.from_residual.result c.from_residual.ensures.0 c.in_err-n.ensures (or_law l.wf _ c.args.acc.0 l.typed (typed_ext w l.ext s.fit.1)).ext
