use Rattle.std.proofs.Common.{sym, ◌∙◌, arith}
use Rattle.std.proofs.lemmas.Int.{ints}
use Rattle.bitvec_closures.proofs.Signed.{negative, positive}
use Rattle.bitvec_closures.proofs.to_int.Goals as goal

pub returns-then-msb-clause-bound : goal.returns-then-msb-clause-bound
returns-then-msb-clause-bound c =
    let a = c.args in
    let e = negative a.width.bits a.v c.neg.result a.width.is_width c.requires (sym c.msb.ensures ∙ c.if-msb.true) c.neg.ensures in
    omega (arith, ints)

pub returns-else-msb-clause-bound : goal.returns-else-msb-clause-bound
returns-else-msb-clause-bound c =
    let a = c.args in
    let e = positive a.width.bits a.v a.width.is_width c.requires (sym c.msb.ensures ∙ c.if-msb.false) in
    omega (arith, ints)
