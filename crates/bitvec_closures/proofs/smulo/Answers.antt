use Rattle.std.proofs.Common.{◌^◌, lit<, arith}
use Rattle.std.specs.Int.{w128}
use Rattle.std.proofs.lemmas.Int.{to_z-of_z, fits_signed_mul}
use Rattle.smtlib.specs.Overflow.{bvsmulo}
use Rattle.bitvec_closures.proofs.smulo.Goals as goal

pub returns : goal.returns
unfolding bvsmulo
returns c =
    let x = c.to_int in
    let y = c.to_int-2 in
    let fits = fits_signed_mul w128 x.result y.result (2 ^ 63) (2 ^ 63) x.ensures.bound y.ensures.bound (lit< tt) in
    grind (arith, to_z-of_z)
