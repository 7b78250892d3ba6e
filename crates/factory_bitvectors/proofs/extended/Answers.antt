use borrow.Author.Tests.{eq-eqb, ne_eqb}
use mathlib.Core.Path.{sym, ◌∙◌}
use Rattle.factory.specs.Bitvectors.{extended_to}
use Rattle.factory.proofs.Calls.{ready_wf}
use Rattle.factory.proofs.Operands.{one_bv}
use Rattle.nodes.proofs.Steps.{builds_as}
use Rattle.factory_bitvectors.proofs.extended.Goals as goal

pub zero_extend-requires : goal.zero_extend-requires
zero_extend-requires c = record {
  below = rw (c.width_of-width.ensures, c.par_of-v.ensures) (one_bv (ready_wf c.requires) c.args.t.0 (sym c.kind_of.ensures ∙ c.if-kind_of-eq17.true));
  wider = rw c.width_of-width.ensures c.requires.fit.1;
}

pub returns-then-kind_of-eq17 : goal.returns-then-kind_of-eq17
unfolding extended_to
returns-then-kind_of-eq17 c =
    builds_as c.bitvec_lit.ensures
    (rw (eq-eqb _ _ (sym c.kind_of.ensures ∙ c.if-kind_of-eq17.true), c.zero_extend.ensures, c.width_of-width.ensures, c.par_of-v.ensures))

pub returns : goal.returns
unfolding extended_to
returns c = builds_as c.term_node.ensures (rw (ne_eqb _ _ (λ e. c.if-kind_of-eq17.false (c.kind_of.ensures ∙ e))))
