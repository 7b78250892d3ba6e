use mathlib.Core.Bool.{true}
use mathlib.Core.Path.{◌≡◌}
use Rattle.compiler.specs.Compiler.{neg_unless}
use Rattle.factory.specs.Fit.{Typed}
use Rattle.factory.specs.Helpers.{if_false}
use Rattle.factory.proofs.Bits.{bvneg_law}
use Rattle.factory.proofs.Calls.{ready_wf, ready_next}
use Rattle.factory.proofs.Guards.{if_false_law}
use Rattle.factory.proofs.Law.{typed_ext, bv_typed}
use Rattle.arena.specs.Values.{tbool}
use Rattle.arena.specs.WellFormed.{is_term}
use Rattle.nodes.proofs.Steps.{builds_then, term_stop}
use Rattle.compiled.proofs.neg_unless.Goals as goal

pub if_false-requires : goal.if_false-requires
if_false-requires c =
    let s = c.requires in
    let w = ready_wf s in
    let l = bvneg_law w c.args.t.0 (bv_typed w c.args.t.0 s.fit.1.isterm s.fit.1.sort) in
    ready_next (λ a n. Typed a tbool c.args.g.0 × is_term a n ≡ true) c.args.arena.now _ c.in_ok-n.ensures s.arena l.wf
    (typed_ext w l.ext s.fit.0, l.typed.isterm)

pub returns : goal.returns
unfolding neg_unless
returns c = builds_then c.args.arena.now _ c.in_ok-n.ensures (λ b n. if_false b c.args.g.0 n) c.if_false.ensures

pub returns-in_err-n : goal.returns-in_err-n
unfolding neg_unless
returns-in_err-n c =
    let s = c.requires in
    let w = ready_wf s in
    let l = bvneg_law w c.args.t.0 (bv_typed w c.args.t.0 s.fit.1.isterm s.fit.1.sort) in
    term_stop c.args.arena.now _ c.from_residual.result c.from_residual.ensures.0 c.in_err-n.ensures (if_false_law l.wf c.args.g.0 _ (typed_ext w l.ext s.fit.0) l.typed).ext
