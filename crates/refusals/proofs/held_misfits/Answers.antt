use Rattle.std.proofs.Common.{sym, ◌∙◌, arith}
use Rattle.arena.specs.View.{nodes_of}
use Rattle.arena.specs.WellFormed.{is_term}
use Rattle.table.specs.Forms.{misfit}
use Rattle.refusals.proofs.Held.{held_hit, held_miss, held_first, held_rest, held_none}
use Rattle.refusals.proofs.held_misfits.Goals as goal

pub misfits-requires : goal.misfits-requires
misfits-requires c =
    let i = c.loop-pair.invariant in let s = c.in-Some.ensures.steps.1 in
    held_first (is_term (nodes_of c.args.nodes.now)) _ _ _ s.0 (s.1 ∙ i.pairs) i.terms

pub returns-then-misfits : goal.returns-then-misfits
returns-then-misfits c =
    let i = c.loop-pair.invariant in let s = c.in-Some.ensures.steps.1 in
    sym (i.left ∙ held_hit (misfit (nodes_of c.args.nodes.now) c.args.named) _ _ _ s.0 (s.1 ∙ i.pairs) (sym c.misfits.ensures ∙ c.if-misfits.true))

pub loop-pair-preserved : goal.loop-pair-preserved
loop-pair-preserved c =
    let i = c.loop-pair.invariant in let s = c.in-Some.ensures.steps in
    record {
      can = omega (arith, s.0, i.pairs);
      ends = tt;
      pairs = s.0 ∙ i.pairs;
      left = i.left ∙ held_miss (misfit (nodes_of c.args.nodes.now) c.args.named) _ _ _ s.1.0 (s.1.1 ∙ i.pairs) (sym c.misfits.ensures ∙ c.if-misfits.false);
      terms = held_rest (is_term (nodes_of c.args.nodes.now)) _ _ _ s.1.0 (s.1.1 ∙ i.pairs) i.terms;
    }

pub returns : goal.returns
returns c =
    let i = c.loop-pair.invariant in
    sym (i.left ∙ held_none (misfit (nodes_of c.args.nodes.now) c.args.named) _ (omega (arith, c.in-None.ensures.steps.1.0, i.pairs)))
