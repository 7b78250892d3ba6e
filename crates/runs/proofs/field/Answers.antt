use Rattle.std.proofs.Common.{◌∙◌, arith}
use Rattle.runs.proofs.Pairs.{given_here, field_later, given_end}
use Rattle.runs.proofs.field.Goals as goal

pub returns-then-pair-k : goal.returns-then-pair-k
returns-then-pair-k c =
    let i = c.loop-pair.invariant in let s = c.in-Some.ensures.steps.1 in
    rw i.left (given_here c.args.k _ _ _ s.0 (s.1 ∙ i.pairs) c.if-pair-k.true)

pub loop-pair-preserved : goal.loop-pair-preserved
loop-pair-preserved c =
    let i = c.loop-pair.invariant in let s = c.in-Some.ensures.steps in
    record { can = omega (arith, s.0, i.pairs); ends = tt; pairs = s.0 ∙ i.pairs; left = i.left ∙ field_later c.args.k _ _ _ s.1.0 (s.1.1 ∙ i.pairs) c.if-pair-k.false }

pub returns : goal.returns
returns c =
    let i = c.loop-pair.invariant in
    rw i.left (given_end c.args.k _ (omega (arith, c.in-None.ensures.steps.1.0, i.pairs)))
