use native.Mathlib.Omega.{arith}
use Rattle.compiler.specs.Compiler.{neg_unless, compiled_neg}
use Rattle.compiler.proofs.Optional.{kind_keep}
use Rattle.factory.specs.Fit.{Typed, OfKind}
use Rattle.factory.proofs.Bits.{bvneg_law, bvnego_law}
use Rattle.factory.proofs.Calls.{ready_wf, ready_next}
use Rattle.factory.proofs.Guards.{if_false_law}
use Rattle.factory.proofs.Law.{typed_ext, bv_typed}
use Rattle.arena.specs.Values.{tbool}
use Rattle.arena.proofs.Ext.{ext_trans}
use Rattle.nodes.proofs.Steps.{builds_then, term_stop}
use Rattle.compiled.proofs.compile_neg.Goals as goal

pub neg_unless-requires : goal.neg_unless-requires
neg_unless-requires c =
    let s = c.requires in
    let w = ready_wf s in
    let l = bvnego_law w c.args.t.0 (bv_typed w c.args.t.0 s.fit.isterm s.fit.sort) in
    ready_next (λ a n. Typed a tbool n × OfKind a 2 c.args.t.0) c.args.arena.now _ c.in_ok-g.ensures s.arena l.wf
    (l.typed, kind_keep l.ext (omega arith) s.fit)

pub returns : goal.returns
unfolding compiled_neg
returns c = builds_then c.args.arena.now _ c.in_ok-g.ensures (λ b g. neg_unless b g c.args.t.0) c.neg_unless.ensures

pub returns-in_err-g : goal.returns-in_err-g
unfolding compiled_neg neg_unless
returns-in_err-g c =
    let s = c.requires in
    let w = ready_wf s in
    let l = bvnego_law w c.args.t.0 (bv_typed w c.args.t.0 s.fit.isterm s.fit.sort) in
    term_stop c.args.arena.now _ c.from_residual.result c.from_residual.ensures.0 c.in_err-g.ensures (let n = bvneg_law l.wf c.args.t.0 (typed_ext w l.ext (bv_typed w c.args.t.0 s.fit.isterm s.fit.sort)) in
    ext_trans n.ext (if_false_law n.wf _ _ (typed_ext l.wf n.ext l.typed) n.typed).ext)
