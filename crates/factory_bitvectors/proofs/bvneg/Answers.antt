use mathlib.Core.Path.{sym, ◌∙◌}
use borrow.Author.Tests.{eq-eqb, ne_eqb}
use Rattle.nodes.proofs.Steps.{builds_here, builds_as}
use Rattle.factory.specs.Bitvectors.{bvneg_t}
use Rattle.factory.proofs.Calls.{ready_wf}
use Rattle.factory.proofs.Operands.{one_bv}
use Rattle.factory_bitvectors.proofs.bvneg.Goals as goal

pub neg-v-requires : goal.neg-v-requires
neg-v-requires c =
    rw (c.width_of-width.ensures, c.par_of.ensures) (one_bv (ready_wf c.requires) c.args.t.0 (sym c.kind_of-kind.ensures ∙ c.if-kind-eq17.true))

pub returns-then-kind-eq17 : goal.returns-then-kind-eq17
unfolding bvneg_t
returns-then-kind-eq17 c =
    builds_as c.bitvec_lit.ensures
    (rw (eq-eqb _ _ (sym c.kind_of-kind.ensures ∙ c.if-kind-eq17.true), c.neg-v.ensures, c.width_of-width.ensures, c.par_of.ensures, c.type_of-ty.ensures))

pub returns-then-kind-eq130 : goal.returns-then-kind-eq130
unfolding bvneg_t
returns-then-kind-eq130 c =
    builds_as (builds_here c.args.arena.now c.requires.arena c.arg_of.result)
    (rw (ne_eqb _ _ (λ e. c.if-kind-eq17.false (c.kind_of-kind.ensures ∙ e)), eq-eqb _ _ (sym c.kind_of-kind.ensures ∙ c.if-kind-eq130.true), c.arg_of.ensures))

pub returns : goal.returns
unfolding bvneg_t
returns c =
    builds_as c.app1.ensures
    (rw (ne_eqb _ _ (λ e. c.if-kind-eq17.false (c.kind_of-kind.ensures ∙ e)), ne_eqb _ _ (λ e. c.if-kind-eq130.false (c.kind_of-kind.ensures ∙ e)), c.type_of-ty.ensures))
