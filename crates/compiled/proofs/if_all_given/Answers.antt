use mathlib.Core.Bool.{true}
use mathlib.Core.Path.{◌≡◌}
use Rattle.compiler.specs.Compiler.{if_all_given}
use Rattle.factory.specs.Fit.{Options}
use Rattle.factory.specs.Helpers.{if_all_some}
use Rattle.factory.proofs.Calls.{ready_wf, ready_next}
use Rattle.factory.proofs.Guards.{options_ext, if_all_some_law}
use Rattle.factory.proofs.Law.{typed_self}
use Rattle.factory.proofs.Made.{some_law}
use Rattle.arena.specs.WellFormed.{is_term}
use Rattle.nodes.proofs.Steps.{builds_then, term_stop}
use Rattle.compiled.proofs.if_all_given.Goals as goal

pub if_all_some-requires : goal.if_all_some-requires
if_all_some-requires c =
    let s = c.requires in
    let w = ready_wf s in
    let l = some_law w c.args.r.0 (typed_self c.args.r.0 s.fit.1) in
    ready_next (λ a n. Options a c.args.gs.now × is_term a n ≡ true) c.args.arena.now _ c.in_ok-s.ensures s.arena l.wf
    (options_ext w l.ext l.wf c.args.gs.now s.fit.0, l.typed.isterm)

pub returns : goal.returns
unfolding if_all_given
returns c = builds_then c.args.arena.now _ c.in_ok-s.ensures (λ b s. if_all_some b c.args.gs.now s) c.if_all_some.ensures

pub returns-in_err-s : goal.returns-in_err-s
unfolding if_all_given
returns-in_err-s c =
    let s = c.requires in
    let w = ready_wf s in
    let l = some_law w c.args.r.0 (typed_self c.args.r.0 s.fit.1) in
    term_stop c.args.arena.now _ c.from_residual.result c.from_residual.ensures.0 c.in_err-s.ensures (if_all_some_law l.wf c.args.gs.now (options_ext w l.ext l.wf c.args.gs.now s.fit.0) _ l.typed).ext
