use mathlib.Core.Bool.{true}
use mathlib.Core.Path.{◌≡◌}
use Rattle.compiler.specs.Compiler.{if_all_given, record_if_all}
use Rattle.factory.specs.Fit.{Options}
use Rattle.factory.proofs.Calls.{ready_wf, ready_next}
use Rattle.factory.proofs.Guards.{options_ext, if_all_some_law}
use Rattle.factory.proofs.Listed.{record_law}
use Rattle.factory.proofs.Made.{some_law}
use Rattle.arena.specs.WellFormed.{is_term}
use Rattle.arena.proofs.Ext.{ext_trans}
use Rattle.nodes.proofs.Steps.{builds_then, term_stop}
use Rattle.compiled.proofs.record_if_all.Goals as goal

pub if_all_given-requires : goal.if_all_given-requires
if_all_given-requires c =
    let s = c.requires.ready in
    let w = ready_wf s in
    let l = record_law w c.args.list.now c.requires.list_len_bound s.fit.2 s.fit.1 in
    ready_next (λ a n. Options a c.args.gs.now × is_term a n ≡ true) c.args.arena.now _ c.in_ok-r.ensures s.arena l.wf
    (options_ext w l.ext l.wf c.args.gs.now s.fit.0, l.typed.isterm)

pub returns : goal.returns
unfolding record_if_all
returns c = builds_then c.args.arena.now _ c.in_ok-r.ensures (λ b r. if_all_given b c.args.gs.now r) c.if_all_given.ensures

pub returns-in_err-r : goal.returns-in_err-r
unfolding record_if_all if_all_given
returns-in_err-r c =
    let s = c.requires.ready in
    let w = ready_wf s in
    let l = record_law w c.args.list.now c.requires.list_len_bound s.fit.2 s.fit.1 in
    term_stop c.args.arena.now _ c.from_residual.result c.from_residual.ensures.0 c.in_err-r.ensures (let x = some_law l.wf _ l.typed in
    let o = options_ext w (ext_trans l.ext x.ext) x.wf c.args.gs.now s.fit.0 in
    ext_trans x.ext (if_all_some_law x.wf c.args.gs.now o _ x.typed).ext)
