use Rattle.arena.specs.Values.{tbool}
use Rattle.nodes.proofs.Steps.{builds_then, term_stop}
use Rattle.factory.specs.Fit.{Typed, Alike}
use Rattle.factory.specs.Core.{ite_t}
use Rattle.factory.specs.Helpers.{or_some}
use Rattle.factory.proofs.Law.{typed_self, typed_ext}
use Rattle.factory.proofs.Made.{some_law}
use Rattle.factory.proofs.Choice.{ite_law}
use Rattle.factory.proofs.Calls.{ready_wf, ready_next}
use Rattle.factory.proofs.Operands.{alike}
use Rattle.factory_helpers.proofs.or_some.Goals as goal

pub ite-requires : goal.ite-requires
ite-requires c =
    let s = c.requires in
    let w = ready_wf s in
    let m = typed_self c.args.t.0 s.fit.1 in
    let l = some_law w c.args.t.0 m in
    let g = typed_ext w l.ext s.fit.0 in
    let n = typed_ext w l.ext s.fit.2 in
    ready_next (λ a x. Typed a tbool c.args.g.0 × Alike a c.args.n.0 x) c.args.arena.now _ c.in_ok-s.ensures s.arena l.wf (g, alike n l.typed)

pub returns : goal.returns
unfolding or_some
returns c =
    builds_then c.args.arena.now _ c.in_ok-s.ensures (λ b x. ite_t b c.args.g.0 c.args.n.0 x) c.ite.ensures

pub returns-in_err-s : goal.returns-in_err-s
unfolding or_some
returns-in_err-s c =
    let s = c.requires in
    let w = ready_wf s in
    let m = typed_self c.args.t.0 s.fit.1 in
    let l = some_law w c.args.t.0 m in
    let g = typed_ext w l.ext s.fit.0 in
    let n = typed_ext w l.ext s.fit.2 in
    term_stop c.args.arena.now _ c.from_residual.result c.from_residual.ensures.0 c.in_err-s.ensures (ite_law l.wf c.args.g.0 c.args.n.0 _ g n l.typed).ext
