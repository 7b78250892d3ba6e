use Rattle.factory.specs.Core.{not_t}
use Rattle.factory.specs.Fit.{Typed}
use Rattle.factory.specs.SetSteps.{not_empty}
use Rattle.factory.proofs.Calls.{ready_wf, ready_next}
use Rattle.factory.proofs.Law.{set_typed}
use Rattle.factory.proofs.Logic.{not_law}
use Rattle.factory.proofs.SetLaws.{is_empty_law}
use Rattle.arena.specs.Values.{tbool}
use Rattle.nodes.proofs.Steps.{builds_then, term_stop}
use Rattle.factory_data.proofs.not_empty.Goals as goal

pub not-requires : goal.not-requires
not-requires c =
    let s = c.requires in
    let w = ready_wf s in
    let l = is_empty_law w c.args.s.0 (set_typed w c.args.s.0 s.fit.isterm s.fit.sort) in
    ready_next (λ a n. Typed a tbool n) c.args.arena.now _ c.in_ok-e.ensures s.arena l.wf
    l.typed

pub returns : goal.returns
unfolding not_empty
returns c = builds_then c.args.arena.now _ c.in_ok-e.ensures not_t c.not.ensures

pub returns-in_err-e : goal.returns-in_err-e
unfolding not_empty
returns-in_err-e c =
    let s = c.requires in
    let w = ready_wf s in
    let l = is_empty_law w c.args.s.0 (set_typed w c.args.s.0 s.fit.isterm s.fit.sort) in
    term_stop c.args.arena.now _ c.from_residual.result c.from_residual.ensures.0 c.in_err-e.ensures (not_law l.wf _ l.typed).ext
