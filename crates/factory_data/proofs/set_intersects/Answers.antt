use Rattle.factory.specs.Fit.{OfKind}
use Rattle.factory.specs.SetSteps.{not_empty, set_intersects}
use Rattle.factory.proofs.Calls.{ready_wf, ready_next}
use Rattle.factory.proofs.Law.{set_typed, set_kind}
use Rattle.factory.proofs.Logic.{not_law}
use Rattle.factory.proofs.Operands.{set_alike}
use Rattle.factory.proofs.SetLaws.{is_empty_law, inter_law}
use Rattle.arena.proofs.Ext.{ext_trans}
use Rattle.nodes.proofs.Steps.{builds_then, term_stop}
use Rattle.factory_data.proofs.set_intersects.Goals as goal

pub not_empty-requires : goal.not_empty-requires
not_empty-requires c =
    let s = c.requires in
    let w = ready_wf s in
    let l = inter_law w c.args.s.0 c.args.t.0 (set_typed w c.args.s.0 s.fit.0.isterm s.fit.0.sort) (set_alike w s.fit.0 s.fit.1) in
    ready_next (λ a n. OfKind a 4 n) c.args.arena.now _ c.in_ok-i.ensures s.arena l.wf
    (record { isterm = l.typed.isterm; sort = set_kind l.wf l.typed })

pub returns : goal.returns
unfolding set_intersects
returns c = builds_then c.args.arena.now _ c.in_ok-i.ensures not_empty c.not_empty.ensures

pub returns-in_err-i : goal.returns-in_err-i
unfolding set_intersects not_empty
returns-in_err-i c =
    let s = c.requires in
    let w = ready_wf s in
    let l = inter_law w c.args.s.0 c.args.t.0 (set_typed w c.args.s.0 s.fit.0.isterm s.fit.0.sort) (set_alike w s.fit.0 s.fit.1) in
    let k = is_empty_law l.wf _ l.typed in
    term_stop c.args.arena.now _ c.from_residual.result c.from_residual.ensures.0 c.in_err-i.ensures (ext_trans k.ext (not_law k.wf _ k.typed).ext)
