use Rattle.compiler.specs.Compiler.{fields_at, has_some}
use Rattle.compiler.proofs.Optional.{optional_got}
use Rattle.factory.specs.Fit.{OfKind}
use Rattle.factory.proofs.Calls.{ready_wf, ready_next}
use Rattle.factory.proofs.Made.{some_law}
use Rattle.factory.proofs.Operands.{opt_of}
use Rattle.factory.proofs.Options.{is_some_law}
use Rattle.factory.proofs.Records.{record_get_law}
use Rattle.arena.specs.Lists.{field_d}
use Rattle.arena.proofs.Ext.{ext_trans}
use Rattle.nodes.proofs.Steps.{builds_then, term_stop}
use Rattle.compiled.proofs.has_optional.Goals as goal

pub has_some-requires : goal.has_some-requires
has_some-requires c =
    let s = c.requires in
    let w = ready_wf s in
    let l = record_get_law w c.args.k c.args.t.0 (field_d (fields_at _ c.args.t.0) c.args.k) s.fit.has.small s.fit.has.rec.isterm s.fit.has.rec.sort s.fit.has.there in
    ready_next (λ a n. OfKind a 3 n) c.args.arena.now _ c.in_ok-p.ensures s.arena l.wf
    (optional_got w s.fit)

pub returns : goal.returns
returns c = builds_then c.args.arena.now _ c.in_ok-p.ensures (has_some) c.has_some.ensures

pub returns-in_err-p : goal.returns-in_err-p
unfolding has_some
returns-in_err-p c =
    let s = c.requires in
    let w = ready_wf s in
    let l = record_get_law w c.args.k c.args.t.0 (field_d (fields_at _ c.args.t.0) c.args.k) s.fit.has.small s.fit.has.rec.isterm s.fit.has.rec.sort s.fit.has.there in
    term_stop c.args.arena.now _ c.from_residual.result c.from_residual.ensures.0 c.in_err-p.ensures (let o = optional_got w s.fit in
    let i = is_some_law l.wf _ (opt_of l.wf _ o) in
    ext_trans i.ext (some_law i.wf _ i.typed).ext)
