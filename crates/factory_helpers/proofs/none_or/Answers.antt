use mathlib.Core.Path.{refl, ap, ◌∙◌}
use Rattle.arena.specs.Nodes.{Nodes, elem_at}
use Rattle.factory.specs.Core.{ite_t}
use Rattle.factory.specs.Fit.{Typed, Alike}
use Rattle.factory.specs.Helpers.{none_or}
use Rattle.factory.proofs.Calls.{ready_wf, ready_next}
use Rattle.factory.proofs.Choice.{ite_law}
use Rattle.factory.proofs.Law.{typed_ext}
use Rattle.factory.proofs.Made.{none_law}
use Rattle.factory.proofs.Operands.{opt_of, alike, opt_type}
use Rattle.arena.specs.Meaning.{ty_of}
use Rattle.arena.specs.Values.{tbool}
use Rattle.nodes.proofs.Steps.{builds_then, term_stop, builds_as}
use Rattle.factory_helpers.proofs.none_or.Goals as goal

pub none_of-requires : goal.none_of-requires
none_of-requires c = record { arena = c.requires.arena; fit = rw (c.elem_of-ty.ensures ∙ ap (λ (a : Nodes). elem_at a c.args.t.0) c.view.ensures) (opt_type (ready_wf c.requires) c.args.t.0 c.requires.fit.1) }

pub ite-requires : goal.ite-requires
ite-requires c =
    let s = c.requires in
    let w = ready_wf s in
    let o = opt_of w c.args.t.0 s.fit.1 in
    let l = none_law w {L = Unit {0}} c.elem_of-ty.result.0 (rw (c.elem_of-ty.ensures ∙ ap (λ (a : Nodes). elem_at a c.args.t.0) c.view.ensures) (opt_type w c.args.t.0 s.fit.1)) (ap (ty_of _) (c.elem_of-ty.ensures ∙ ap (λ (a : Nodes). elem_at a c.args.t.0) c.view.ensures)) in
    ready_next (λ a n. Typed a tbool c.args.g.0 × Alike a n c.args.t.0) c.args.arena.now _ c.in_ok-n.ensures s.arena l.wf
    (typed_ext w l.ext s.fit.0, alike l.typed (typed_ext w l.ext o))

pub returns : goal.returns
unfolding none_or
returns c = builds_as (builds_then c.args.arena.now _ c.in_ok-n.ensures (λ b n. ite_t b c.args.g.0 n c.args.t.0) c.ite.ensures) (rw (c.elem_of-ty.ensures ∙ ap (λ (a : Nodes). elem_at a c.args.t.0) c.view.ensures))

pub returns-in_err-n : goal.returns-in_err-n
unfolding none_or
returns-in_err-n c =
    let s = c.requires in
    let w = ready_wf s in
    let o = opt_of w c.args.t.0 s.fit.1 in
    let l = none_law w {L = Unit {0}} _ (opt_type w c.args.t.0 s.fit.1) refl in
    term_stop c.args.arena.now _ c.from_residual.result c.from_residual.ensures.0 c.in_err-n.ensures
    (rw (c.elem_of-ty.ensures ∙ ap (λ (a : Nodes). elem_at a c.args.t.0) c.view.ensures) (ite_law l.wf c.args.g.0 _ c.args.t.0 (typed_ext w l.ext s.fit.0) l.typed (typed_ext w l.ext o)).ext)
