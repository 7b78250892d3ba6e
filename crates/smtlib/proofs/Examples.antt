-- Document 01's worked examples of bitvectors, P6 to P9 and the two of smulo, computed from the definitions: one table, one statement.
use mathlib.Core.Path.{◌≡◌, refl}
use mathlib.Core.Bool.{Bool, true, not, ◌&&◌}
use mathlib.Core.List.{List, [], ◌∷◌}
use Prim.Native.Nat.{◌-◌, ◌^◌}
use lib.Dec.{eqb}
use Rattle.smtlib.specs.Theory.{nat2bv, extract, concat, all_ones, bvneg, bvadd, bvudiv, bvurem, bvshl, bvult}
use Rattle.smtlib.specs.Logic.{top, by_tops, by_top, bvsdiv, bvsrem, bvabs, bvsmod_of, bvsmod, bvslt}
use Rattle.smtlib.specs.Overflow.{bv2int, outside, bvnego, bvsmulo}

abbrev every : List Bool → Bool
every [] = true
every (b ∷ bs) = b && every bs

examples : List Bool
examples =
    -- P6, width 1
    bvslt 1 1 0
    ∷ not (bvult 1 0)
    ∷ bvnego 1 1
    -- P7, width 4
    ∷ eqb (bvudiv 4 7 0) 15
    ∷ eqb (bvurem 4 7 0) 7
    ∷ eqb (bvsdiv 4 7 0) 15
    ∷ eqb (bvsdiv 4 9 0) 1
    -- P8, width 4
    ∷ eqb (bvsrem 4 9 3) 15
    ∷ eqb (bvsmod 4 9 3) 2
    -- P9, width 4
    ∷ eqb (bvshl 4 1 3) 8
    ∷ eqb (bvshl 4 1 4) 0
    -- width 64: 2^32 by 2^31, and -2^32 by 2^31
    ∷ bvsmulo 64 (2 ^ 32) (2 ^ 31)
    ∷ not (bvsmulo 64 (2 ^ 64 - 2 ^ 32) (2 ^ 31))
    ∷ []

examples_hold : every examples ≡ true
unfolding examples nat2bv extract concat all_ones bvneg bvadd bvudiv bvurem bvshl bvult top by_tops by_top bvsdiv bvsrem bvabs bvsmod_of bvsmod bvslt bv2int outside bvnego bvsmulo
examples_hold = refl
