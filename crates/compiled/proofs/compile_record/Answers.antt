use mathlib.Core.Path.{ap, ◌∙◌}
use native.Mathlib.Omega.{arith}
use Rattle.compiler.specs.Compiler.{inner, compiled_record}
use Rattle.compiler.proofs.Gather.{record_if_all_ext, given-next, given_then}
use Rattle.compiler.proofs.Record.{alike_keys, got_all}
use Rattle.factory.proofs.Calls.{ready_wf}
use Rattle.factory.proofs.Guards.{options_ext}
use Rattle.arena.specs.Lists.{all, odds}
use Rattle.arena.specs.WellFormed.{small}
use Rattle.arena.proofs.Ext.{ext_same}
use Rattle.arena.proofs.Insertion.{holds-length}
use Rattle.nodes.proofs.Steps.{term_stop}
use Rattle.compiled.proofs.compile_record.Goals as goal

pub slice_bounds-record_if_all-end : goal.slice_bounds-record_if_all-end
slice_bounds-record_if_all-end c = holds-length c.listed_options-n.ensures

pub record_if_all-requires : goal.record_if_all-requires
record_if_all-requires c =
    let f = c.in_ok-get_fields.ensures in
    record { ready = given-next c.args.list.now c.listed_options-n.ensures f.holds_inner f.did c.requires.ready c.requires.list_len; list_len_bound = (let n = c.requires.list_len_bound in let z = holds-length f.holds_inner in omega arith) }

pub returns : goal.returns
returns c =
    let f = c.in_ok-get_fields.ensures in
    given_then c.args.list.now c.listed_options-n.ensures f.holds_inner f.did c.record_if_all.ensures

pub returns-in_err-get_fields : goal.returns-in_err-get_fields
unfolding compiled_record
returns-in_err-get_fields c =
    let s = c.requires.ready in
    let w = ready_wf s in
    let l = got_all w c.args.list.now c.requires.list_len s.fit.0 ext_same w in
    term_stop c.args.arena.now _ c.from_residual.result c.from_residual.ensures.0 c.in_err-get_fields.ensures.did
    (record_if_all_ext l.wf (odds c.args.list.now) (inner _ c.args.list.now) (options_ext w l.ext l.wf (odds c.args.list.now) s.fit.0) (let n = c.requires.list_len_bound in let c = l.count in omega arith) (ap (all small) (alike_keys l.types) ∙ s.fit.1) l.terms)
