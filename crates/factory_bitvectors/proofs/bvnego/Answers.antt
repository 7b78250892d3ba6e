use mathlib.Core.Path.{sym, ◌∙◌}
use borrow.Author.Tests.{eq-eqb, ne_eqb}
use Rattle.nodes.proofs.Steps.{builds_here, builds_as}
use Rattle.factory.specs.Bitvectors.{bvnego_t}
use Rattle.factory.proofs.Calls.{ready_wf}
use Rattle.factory.proofs.Operands.{one_bv}
use Rattle.factory_bitvectors.proofs.bvnego.Goals as goal

pub nego-requires : goal.nego-requires
nego-requires c =
    rw (c.width_of-width.ensures, c.par_of-v.ensures) (one_bv (ready_wf c.requires) c.args.t.0 (sym c.kind_of.ensures ∙ c.if-kind_of-eq17.true))

pub returns-then-kind_of-eq17 : goal.returns-then-kind_of-eq17
unfolding bvnego_t
returns-then-kind_of-eq17 c =
    builds_as (builds_here c.args.arena.now c.requires.arena c.bool_at.result.0)
    (rw (eq-eqb _ _ (sym c.kind_of.ensures ∙ c.if-kind_of-eq17.true), c.bool_at.ensures, c.nego.ensures, c.width_of-width.ensures, c.par_of-v.ensures))

pub returns : goal.returns
unfolding bvnego_t
returns c =
    builds_as c.app1.ensures (rw (ne_eqb _ _ (λ e. c.if-kind_of-eq17.false (c.kind_of.ensures ∙ e))))
