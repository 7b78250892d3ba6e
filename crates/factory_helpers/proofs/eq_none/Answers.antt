use mathlib.Core.Path.{refl, ap, ◌∙◌}
use Rattle.arena.specs.Nodes.{Nodes, elem_at}
use Rattle.arena.specs.Meaning.{ty_of}
use Rattle.nodes.proofs.Steps.{builds_then, term_stop, builds_as}
use Rattle.factory.specs.Fit.{Alike}
use Rattle.factory.specs.Core.{eq_t}
use Rattle.factory.specs.Helpers.{eq_none}
use Rattle.factory.proofs.Law.{typed_ext}
use Rattle.factory.proofs.Made.{none_law}
use Rattle.factory.proofs.Equal.{eq_law}
use Rattle.factory.proofs.Calls.{ready_wf, ready_next}
use Rattle.factory.proofs.Operands.{opt_type, opt_of, alike}
use Rattle.factory_helpers.proofs.eq_none.Goals as goal

pub none_of-requires : goal.none_of-requires
none_of-requires c =
    record { arena = c.requires.arena; fit = rw (c.elem_of-ty.ensures ∙ ap (λ (a : Nodes). elem_at a c.args.t.0) c.view.ensures) (opt_type (ready_wf c.requires) c.args.t.0 c.requires.fit) }

pub eq-requires : goal.eq-requires
eq-requires c =
    let s = c.requires in
    let w = ready_wf s in
    let o = opt_of w c.args.t.0 s.fit in
    let l = none_law w {L = Unit {0}} c.elem_of-ty.result.0 (rw (c.elem_of-ty.ensures ∙ ap (λ (a : Nodes). elem_at a c.args.t.0) c.view.ensures) (opt_type w c.args.t.0 s.fit)) (ap (ty_of _) (c.elem_of-ty.ensures ∙ ap (λ (a : Nodes). elem_at a c.args.t.0) c.view.ensures)) in
    ready_next (λ a n. Alike a c.args.t.0 n) c.args.arena.now _ c.in_ok-n.ensures s.arena l.wf (alike (typed_ext w l.ext o) l.typed)

pub returns : goal.returns
unfolding eq_none
returns c =
    builds_as (builds_then c.args.arena.now _ c.in_ok-n.ensures (λ b n. eq_t b c.args.t.0 n) c.eq.ensures) (rw (c.elem_of-ty.ensures ∙ ap (λ (a : Nodes). elem_at a c.args.t.0) c.view.ensures))

pub returns-in_err-n : goal.returns-in_err-n
unfolding eq_none
returns-in_err-n c =
    let s = c.requires in
    let w = ready_wf s in
    let o = opt_of w c.args.t.0 s.fit in
    let l = none_law w {L = Unit {0}} _ (opt_type w c.args.t.0 s.fit) refl in
    term_stop c.args.arena.now _ c.from_residual.result c.from_residual.ensures.0 c.in_err-n.ensures (rw (c.elem_of-ty.ensures ∙ ap (λ (a : Nodes). elem_at a c.args.t.0) c.view.ensures) (eq_law l.wf c.args.t.0 _ (typed_ext w l.ext o) l.typed).ext)
