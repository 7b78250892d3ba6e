use Rattle.nodes.specs.Builds.{nodes_of}
use borrow.Author.Tests.{eq-eqb, ne_eqb}
use mathlib.Core.Path.{refl, sym, ◌∙◌}
use Rattle.factory.specs.Core.{eq_t}
use Rattle.factory.specs.Fit.{Alike}
use Rattle.factory.specs.SetSteps.{set_is_empty}
use Rattle.factory.proofs.Calls.{ready_wf, ready_next}
use Rattle.factory.proofs.Equal.{eq_law}
use Rattle.factory.proofs.Law.{typed_ext, set_typed}
use Rattle.factory.proofs.Operands.{alike}
use Rattle.factory.proofs.Picks.{nil_length}
use Rattle.factory.proofs.SetLaws.{empty_law}
use Rattle.arena.specs.Nodes.{type_at, mem_at}
use Rattle.nodes.proofs.Steps.{builds_then, term_stop, builds_here, builds_as}
use Rattle.factory_data.proofs.set_is_empty.Goals as goal

pub returns-then-kind_of-eq20 : goal.returns-then-kind_of-eq20
unfolding set_is_empty
returns-then-kind_of-eq20 c = builds_as (builds_here c.args.arena.now c.requires.arena c.bool_at.result.0) (rw (eq-eqb _ _ (sym c.kind_of.ensures ∙ c.if-kind_of-eq20.true), c.bool_at.ensures, c.members_of.ensures, nil_length (mem_at (nodes_of c.args.arena.now) c.args.s.0)))

pub eq-requires : goal.eq-requires
eq-requires c =
    let s = c.requires in
    let w = ready_wf s in
    let m = set_typed w c.args.s.0 s.fit.isterm s.fit.sort in
    let l = empty_law w c.args.s.0 m c.type_of-ty.result.0 c.type_of-ty.ensures in
    ready_next (λ a n. Alike a c.args.s.0 n) c.args.arena.now _ c.in_ok-e.ensures s.arena l.wf
    (alike (typed_ext w l.ext m) l.typed)

pub returns : goal.returns
unfolding set_is_empty
returns c = builds_as (builds_then c.args.arena.now _ c.in_ok-e.ensures (λ b e. eq_t b c.args.s.0 e) c.eq.ensures) (rw (ne_eqb _ _ (λ e. c.if-kind_of-eq20.false (c.kind_of.ensures ∙ e)), c.type_of-ty.ensures))

pub returns-in_err-e : goal.returns-in_err-e
unfolding set_is_empty
returns-in_err-e c =
    let s = c.requires in
    let w = ready_wf s in
    let m = set_typed w c.args.s.0 s.fit.isterm s.fit.sort in
    let l = empty_law w c.args.s.0 m (type_at _ c.args.s.0) refl in
    term_stop c.args.arena.now _ c.from_residual.result c.from_residual.ensures.0 c.in_err-e.ensures (rw (ne_eqb _ _ (λ e. c.if-kind_of-eq20.false (c.kind_of.ensures ∙ e)), c.type_of-ty.ensures) (eq_law l.wf c.args.s.0 _ (typed_ext w l.ext m) l.typed).ext)
