use mathlib.Core.Path.{◌≡◌, refl, ap}
use mathlib.Core.Bool.{true}
use Rattle.arena.specs.WellFormed.{is_term}
use Rattle.arena.specs.Values.{tbool, topt}
use Rattle.arena.specs.Meaning.{ty_of, ty_at}
use Rattle.arena.proofs.Chain.{term_type}
use Rattle.arena.proofs.Ext.{ext_trans}
use Rattle.nodes.proofs.Steps.{builds_then, term_stop, builds_as}
use Rattle.factory.specs.Fit.{Typed}
use Rattle.factory.specs.Helpers.{or_some, if_false}
use Rattle.factory.proofs.Law.{typed_self, typed_ext}
use Rattle.factory.proofs.Made.{none_law, some_law}
use Rattle.factory.proofs.Choice.{ite_law}
use Rattle.factory.proofs.Calls.{ready_wf, ready_next}
use Rattle.factory_helpers.proofs.if_false.Goals as goal

pub none_of-requires : goal.none_of-requires
none_of-requires c =
    record { arena = c.requires.arena; fit = rw c.type_of-ty.ensures (term_type (ready_wf c.requires).chain c.args.t.0 c.requires.fit.1) }

pub or_some-requires : goal.or_some-requires
or_some-requires c =
    let s = c.requires in
    let w = ready_wf s in
    let h = term_type w.chain c.args.t.0 s.fit.1 in
    let l = none_law w {L = Unit {0}} c.type_of-ty.result.0 (rw c.type_of-ty.ensures h) (ap (ty_of _) c.type_of-ty.ensures) in
    let t = typed_ext w l.ext (typed_self c.args.t.0 s.fit.1) in
    ready_next (λ a n. Typed a tbool c.args.g.0 × is_term a c.args.t.0 ≡ true × Typed a (topt (ty_at a c.args.t.0)) n) c.args.arena.now _ c.in_ok-n.ensures s.arena l.wf
    (typed_ext w l.ext s.fit.0, t.isterm, rw t.typed l.typed)

pub returns : goal.returns
unfolding if_false
returns c =
    builds_as (builds_then c.args.arena.now _ c.in_ok-n.ensures (λ b n. or_some b c.args.g.0 n c.args.t.0) c.or_some.ensures) (rw c.type_of-ty.ensures)

pub returns-in_err-n : goal.returns-in_err-n
unfolding if_false or_some
returns-in_err-n c =
    let s = c.requires in
    let w = ready_wf s in
    let l = none_law w {L = Unit {0}} _ (term_type w.chain c.args.t.0 s.fit.1) refl in
    let g = typed_ext w l.ext s.fit.0 in
    let t = typed_ext w l.ext (typed_self c.args.t.0 s.fit.1) in
    let x = some_law l.wf c.args.t.0 t in
    term_stop c.args.arena.now _ c.from_residual.result c.from_residual.ensures.0 c.in_err-n.ensures
    (rw c.type_of-ty.ensures (ext_trans x.ext (ite_law x.wf c.args.g.0 _ _ (typed_ext l.wf x.ext g) (typed_ext l.wf x.ext l.typed) x.typed).ext))
