-- SMT-LIB's overflow predicates: the exact signed result, a whole number, lies outside -2 ^ (m - 1) to 2 ^ (m - 1) - 1.
use Rattle.std.specs.Prelude.{ℕ, ◌-◌, ◌^◌, Bool, cond, ◌||◌, eqb, ℤ, pos, neg_ℤ, ◌+ℤ◌, ◌-ℤ◌, ◌*ℤ◌}
use Rattle.std.specs.Int.Signed.{lt_z}
use Rattle.smtlib.specs.Logic.{top}

-- the signed value: bv2nat s where the top bit is 0, else bv2nat s - 2 ^ m
unfoldable pub bv2int : ℕ → ℕ → ℤ
bv2int m s = cond (eqb (top m s) 0) (pos s) (pos s -ℤ pos (2 ^ m))

unfoldable pub outside : ℕ → ℤ → Bool
outside m z = lt_z z (neg_ℤ (pos (2 ^ (m - 1)))) || lt_z (pos (2 ^ (m - 1)) -ℤ pos 1) z

unfoldable pub bvnego : ℕ → ℕ → Bool
bvnego m s = outside m (neg_ℤ (bv2int m s))

unfoldable pub bvsaddo : ℕ → ℕ → ℕ → Bool
bvsaddo m s t = outside m (bv2int m s +ℤ bv2int m t)

unfoldable pub bvssubo : ℕ → ℕ → ℕ → Bool
bvssubo m s t = outside m (bv2int m s -ℤ bv2int m t)

unfoldable pub bvsmulo : ℕ → ℕ → ℕ → Bool
bvsmulo m s t = outside m (bv2int m s *ℤ bv2int m t)
