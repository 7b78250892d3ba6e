use Rattle.std.proofs.Common.{◌≡◌, ℕ, ◌+◌, ◌*◌, ◌/◌, ◌%◌, ◌^◌, ◌<◌, ◌≤◌, ◌∙◌, arith, shr_lt, w64, Fits}
use lib.Pow.{split}
use lib.Bits.{bit_and, and_mask, mask_lt}
use Rattle.smtlib.proofs.Columns.{digits, columns}
use Rattle.bitvec.proofs.product.Goals as goal

abbrev lo : ℕ → ℕ
lo x = bit_and x 4294967295

abbrev hi : ℕ → ℕ
hi x = x / 4294967296

abbrev t : ℕ → ℕ → ℕ
t u v = hi u * lo v + hi (lo u * lo v)

abbrev w1 : ℕ → ℕ → ℕ
w1 u v = lo (t u v) + lo u * hi v

module _ (u v : ℕ) (hu : u < 2 ^ 64) (hv : v < 2 ^ 64) where
  ll : lo u * lo v ≤ 18446744065119617025
  ll = digits (mask_lt u 32) (mask_lt v 32)

  lh : lo u * hi v ≤ 18446744065119617025
  lh = digits (mask_lt u 32) (shr_lt 32 32 hv)

  hl : hi u * lo v ≤ 18446744065119617025
  hl = digits (shr_lt 32 32 hu) (mask_lt v 32)

  hh : hi u * hi v ≤ 18446744065119617025
  hh = digits (shr_lt 32 32 hu) (shr_lt 32 32 hv)

  t-fits : Fits w64 (t u v)
  t-fits = omega (arith, hl, ll)

  w1-fits : Fits w64 (w1 u v)
  w1-fits = omega (arith, lh, mask_lt (t u v) 32)

  high_fits : Fits w64 (hi u * hi v + hi (t u v) + hi (w1 u v))
  high_fits = omega (arith, hh, t-fits, w1-fits)

-- with masks as remainders the numbers are the law's

whole : (u v : ℕ) → (hi u * hi v + hi (t u v) + hi (w1 u v)) * 2 ^ 64 + (w1 u v * 4294967296 % 2 ^ 64 + lo (lo u * lo v)) ≡ u * v
whole u v =
    (λ i. (hi u * hi v + hi (hi u * and_mask v 32 i + hi (and_mask u 32 i * and_mask v 32 i)) + hi (and_mask (hi u * and_mask v 32 i + hi (and_mask u 32 i * and_mask v 32 i)) 32 i + and_mask u 32 i * hi v)) * 2 ^ 64 + ((and_mask (hi u * and_mask v 32 i + hi (and_mask u 32 i * and_mask v 32 i)) 32 i + and_mask u 32 i * hi v) * 4294967296 % 2 ^ 64 + and_mask (and_mask u 32 i * and_mask v 32 i) 32 i))
    ∙ columns (u % 4294967296) (hi u) (v % 4294967296) (hi v)
    ∙ (λ i. split u 32 i * split v 32 i)

pub overflow_add-result-2 : goal.overflow_add-result-2
overflow_add-result-2 c = high_fits c.args.u c.args.v c.ranges.u.fits c.ranges.v.fits

pub returns : goal.returns
returns c = whole c.args.u c.args.v
