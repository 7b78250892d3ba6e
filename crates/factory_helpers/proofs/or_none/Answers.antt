use mathlib.Core.Path.{refl, ap}
use Rattle.arena.specs.Values.{tbool}
use Rattle.arena.specs.Meaning.{ty_of}
use Rattle.arena.proofs.Chain.{term_type}
use Rattle.nodes.proofs.Steps.{builds_then, term_stop, builds_as}
use Rattle.factory.specs.Fit.{Typed, Alike}
use Rattle.factory.specs.Core.{ite_t}
use Rattle.factory.specs.Helpers.{or_none}
use Rattle.factory.proofs.Law.{typed_ext}
use Rattle.factory.proofs.Made.{none_law}
use Rattle.factory.proofs.Choice.{ite_law}
use Rattle.factory.proofs.Calls.{ready_wf, ready_next}
use Rattle.factory.proofs.Operands.{alike}
use Rattle.factory_helpers.proofs.or_none.Goals as goal

pub none_of-requires : goal.none_of-requires
none_of-requires c =
    record { arena = c.requires.arena; fit = rw c.type_of-ty.ensures (term_type (ready_wf c.requires).chain c.args.t.0 c.requires.fit.1) }

pub ite-requires : goal.ite-requires
ite-requires c =
    let s = c.requires in
    let w = ready_wf s in
    let h = term_type w.chain c.args.t.0 s.fit.1 in
    let l = none_law w {L = Unit {0}} c.type_of-ty.result.0 (rw c.type_of-ty.ensures h) (ap (ty_of _) c.type_of-ty.ensures) in
    ready_next (λ a n. Typed a tbool c.args.g.0 × Alike a c.args.s.0 n) c.args.arena.now _ c.in_ok-n.ensures s.arena l.wf (typed_ext w l.ext s.fit.0, alike (typed_ext w l.ext s.fit.2) l.typed)

pub returns : goal.returns
unfolding or_none
returns c =
    builds_as (builds_then c.args.arena.now _ c.in_ok-n.ensures (λ b n. ite_t b c.args.g.0 c.args.s.0 n) c.ite.ensures) (rw c.type_of-ty.ensures)

pub returns-in_err-n : goal.returns-in_err-n
unfolding or_none
returns-in_err-n c =
    let s = c.requires in
    let w = ready_wf s in
    let l = none_law w {L = Unit {0}} _ (term_type w.chain c.args.t.0 s.fit.1) refl in
    term_stop c.args.arena.now _ c.from_residual.result c.from_residual.ensures.0 c.in_err-n.ensures (rw c.type_of-ty.ensures (ite_law l.wf c.args.g.0 c.args.s.0 _ (typed_ext w l.ext s.fit.0) (typed_ext w l.ext s.fit.2) l.typed).ext)
