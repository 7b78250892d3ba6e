-- SMT-LIB's theory FixedSizeBitVectors, line by line. m is the width; a bitvector is the number that the theory's bv2nat gives, so it is below 2 ^ m.
use Rattle.std.specs.Prelude.{ℕ, ◌+◌, ◌-◌, ◌*◌, ◌/◌, ◌%◌, ◌^◌, ◌≤◌, Bool, cond, eqb, ltb}
use Rattle.std.specs.Int.Bits.{bit_xor}

-- a width
pub record IsWidth (m : ℕ) : Type 0 where
  pub least : 1 ≤ m
  pub most : m ≤ 64

-- nat2bv[m] n: the bitvector of n mod 2 ^ m
unfoldable pub nat2bv : ℕ → ℕ → ℕ
nat2bv m n = n % 2 ^ m

-- (_ extract i j): the bits from j up to i
unfoldable pub extract : ℕ → ℕ → ℕ → ℕ
extract i j s = s / 2 ^ j % 2 ^ (i - j + 1)

-- concat s t, with t of width m
unfoldable pub concat : ℕ → ℕ → ℕ → ℕ
concat m s t = s * 2 ^ m + t

-- every bit is 1
unfoldable pub all_ones : ℕ → ℕ
all_ones m = 2 ^ m - 1

-- bvnot flips every bit
unfoldable pub bvnot : ℕ → ℕ → ℕ
bvnot m s = bit_xor s (all_ones m)

-- bvneg s is nat2bv[m](2 ^ m - bv2nat s)
unfoldable pub bvneg : ℕ → ℕ → ℕ
bvneg m s = nat2bv m (2 ^ m - s)

unfoldable pub bvadd : ℕ → ℕ → ℕ → ℕ
bvadd m s t = nat2bv m (s + t)

unfoldable pub bvmul : ℕ → ℕ → ℕ → ℕ
bvmul m s t = nat2bv m (s * t)

-- division by 0 gives all ones
unfoldable pub bvudiv : ℕ → ℕ → ℕ → ℕ
bvudiv m s t = cond (eqb t 0) (all_ones m) (nat2bv m (s / t))

-- the remainder by 0 is the dividend
unfoldable pub bvurem : ℕ → ℕ → ℕ → ℕ
bvurem m s t = cond (eqb t 0) s (nat2bv m (s % t))

-- the whole shift amount counts, also beyond the width
unfoldable pub bvshl : ℕ → ℕ → ℕ → ℕ
bvshl m s t = nat2bv m (s * 2 ^ t)

unfoldable pub bvlshr : ℕ → ℕ → ℕ → ℕ
bvlshr m s t = nat2bv m (s / 2 ^ t)

unfoldable pub bvult : ℕ → ℕ → Bool
bvult s t = ltb s t
