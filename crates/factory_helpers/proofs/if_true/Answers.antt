use mathlib.Core.Path.{◌≡◌}
use mathlib.Core.Bool.{true}
use Rattle.arena.specs.WellFormed.{is_term}
use Rattle.arena.specs.Values.{tbool, topt}
use Rattle.arena.specs.Meaning.{ty_at}
use Rattle.arena.proofs.Chain.{term_type}
use Rattle.arena.proofs.Ext.{ext_trans}
use Rattle.nodes.proofs.Steps.{builds_then, term_stop}
use Rattle.factory.specs.Fit.{Typed}
use Rattle.factory.specs.Helpers.{or_none, if_true}
use Rattle.factory.proofs.Law.{typed_self, typed_ext}
use Rattle.factory.proofs.Made.{none_law, some_law}
use Rattle.factory.proofs.Choice.{ite_law}
use Rattle.factory.proofs.Calls.{ready_wf, ready_next}
use Rattle.factory_helpers.proofs.if_true.Goals as goal

pub or_none-requires : goal.or_none-requires
or_none-requires c =
    let s = c.requires in
    let w = ready_wf s in
    let m = typed_self c.args.t.0 s.fit.1 in
    let l = some_law w c.args.t.0 m in
    let t = typed_ext w l.ext m in
    ready_next (λ a x. Typed a tbool c.args.g.0 × is_term a c.args.t.0 ≡ true × Typed a (topt (ty_at a c.args.t.0)) x) c.args.arena.now _ c.in_ok-s.ensures s.arena l.wf
    (typed_ext w l.ext s.fit.0, t.isterm, rw t.typed l.typed)

pub returns : goal.returns
unfolding if_true
returns c =
    builds_then c.args.arena.now _ c.in_ok-s.ensures (λ b x. or_none b c.args.g.0 x c.args.t.0) c.or_none.ensures

pub returns-in_err-s : goal.returns-in_err-s
unfolding if_true or_none
returns-in_err-s c =
    let s = c.requires in
    let w = ready_wf s in
    let m = typed_self c.args.t.0 s.fit.1 in
    let l = some_law w c.args.t.0 m in
    let t = typed_ext w l.ext m in
    let g = typed_ext w l.ext s.fit.0 in
    let x = none_law l.wf {L = Unit {0}} _ (term_type l.wf.chain c.args.t.0 t.isterm) t.typed in
    term_stop c.args.arena.now _ c.from_residual.result c.from_residual.ensures.0 c.in_err-s.ensures
    (ext_trans x.ext (ite_law x.wf c.args.g.0 _ _ (typed_ext l.wf x.ext g) (typed_ext l.wf x.ext l.typed) x.typed).ext)
