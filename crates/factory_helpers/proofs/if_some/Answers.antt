use mathlib.Core.Bool.{true}
use mathlib.Core.Path.{◌≡◌}
use Rattle.factory.specs.Fit.{Typed}
use Rattle.factory.specs.Helpers.{guarded, if_some}
use Rattle.factory.proofs.Calls.{ready_wf, ready_next}
use Rattle.factory.proofs.Guards.{guarded_law}
use Rattle.factory.proofs.Law.{typed_ext, typed_self}
use Rattle.factory.proofs.Operands.{opt_of}
use Rattle.factory.proofs.Options.{is_none_law}
use Rattle.arena.specs.Values.{tbool}
use Rattle.arena.specs.WellFormed.{is_term}
use Rattle.arena.proofs.Chain.{term_ext}
use Rattle.nodes.proofs.Steps.{builds_then, term_stop}
use Rattle.factory_helpers.proofs.if_some.Goals as goal

pub guarded-requires : goal.guarded-requires
guarded-requires c =
    let s = c.requires in
    let w = ready_wf s in
    let l = is_none_law w c.args.g.0 (opt_of w c.args.g.0 s.fit.0) in
    ready_next (λ a n. Typed a tbool n × is_term a c.args.t.0 ≡ true) c.args.arena.now _ c.in_ok-n.ensures s.arena l.wf
    (l.typed, term_ext l.ext c.args.t.0 s.fit.1)

pub returns : goal.returns
unfolding if_some
returns c = builds_then c.args.arena.now _ c.in_ok-n.ensures (λ b n. guarded b n c.args.t.0) c.guarded.ensures

pub returns-in_err-n : goal.returns-in_err-n
unfolding if_some
returns-in_err-n c =
    let s = c.requires in
    let w = ready_wf s in
    let l = is_none_law w c.args.g.0 (opt_of w c.args.g.0 s.fit.0) in
    term_stop c.args.arena.now _ c.from_residual.result c.from_residual.ensures.0 c.in_err-n.ensures (guarded_law l.wf _ c.args.t.0 l.typed (typed_ext w l.ext (typed_self c.args.t.0 s.fit.1))).ext
