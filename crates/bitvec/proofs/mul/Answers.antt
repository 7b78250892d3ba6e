use Rattle.std.proofs.Common.{◌∙◌}
use Rattle.smtlib.specs.Theory.{bvmul}
use Rattle.smtlib.proofs.Columns.{low_word}
use Rattle.bitvec.proofs.mul.Goals as goal

pub returns : goal.returns
unfolding bvmul
returns c =
    let p = c.product-p in
    c.of_nat.ensures
    ∙ low_word c.args.width.bits p.result.high p.result.low c.args.lhs c.args.rhs c.args.width.is_width.most p.ensures
