use mathlib.Core.Bool.{true}
use mathlib.Core.Path.{◌≡◌}
use Rattle.factory.specs.Fit.{Typed}
use Rattle.factory.specs.Helpers.{guarded, if_all_some}
use Rattle.factory.proofs.Calls.{ready_wf, ready_next}
use Rattle.factory.proofs.Guards.{guarded_law, any_none_law}
use Rattle.factory.proofs.Law.{typed_ext, typed_self}
use Rattle.arena.specs.Values.{tbool}
use Rattle.arena.specs.WellFormed.{is_term}
use Rattle.arena.proofs.Chain.{term_ext}
use Rattle.nodes.proofs.Steps.{builds_then, term_stop}
use Rattle.factory_helpers.proofs.if_all_some.Goals as goal

pub guarded-requires : goal.guarded-requires
guarded-requires c =
    let s = c.requires in
    let w = ready_wf s in
    let l = any_none_law w c.args.gs.now s.fit.0 in
    ready_next (λ a n. Typed a tbool n × is_term a c.args.t.0 ≡ true) c.args.arena.now _ c.in_ok-g.ensures s.arena l.wf
    (l.typed, term_ext l.ext c.args.t.0 s.fit.1)

pub returns : goal.returns
unfolding if_all_some
returns c = builds_then c.args.arena.now _ c.in_ok-g.ensures (λ b n. guarded b n c.args.t.0) c.guarded.ensures

pub returns-in_err-g : goal.returns-in_err-g
unfolding if_all_some
returns-in_err-g c =
    let s = c.requires in
    let w = ready_wf s in
    let l = any_none_law w c.args.gs.now s.fit.0 in
    term_stop c.args.arena.now _ c.from_residual.result c.from_residual.ensures.0 c.in_err-g.ensures (guarded_law l.wf _ c.args.t.0 l.typed (typed_ext w l.ext (typed_self c.args.t.0 s.fit.1))).ext
