-- The laws of smtlib that the goals of one function share, a set for each, which the function names.
use Rattle.std.proofs.Common.{◌≡◌, ℕ, ◌%◌, ◌^◌, ◌≤◌}
use Rattle.smtlib.proofs.Word.{mod-mod-le}
use lib.Bits.{and_mask}
use Rattle.smtlib.proofs.Tops.{top_lt, top-div}
use Rattle.smtlib.proofs.Below.{bvudiv-lt, bvurem-lt, bvabs-lt}
use Rattle.smtlib.proofs.Absolute.{sdiv_abs, srem_abs, smod_rem, order, same_tops}

-- of_nat
pub ruleset masks = (and_mask)

-- msb
pub ruleset tops = (top-div)

-- by_sign
pub ruleset signs = (order, top_lt, same_tops)

-- sdiv
pub ruleset quotients = (sdiv_abs, same_tops, bvabs-lt, bvudiv-lt)

-- srem
pub ruleset remainders = (srem_abs, bvabs-lt, bvurem-lt)

-- smod
pub ruleset moduli = (smod_rem, same_tops)

-- add and shl: a word holds the low bits
pub word : (n m : ℕ) → m ≤ 64 → n % 18446744073709551616 % 2 ^ m ≡ n % 2 ^ m
word n m h = mod-mod-le n m 64 h
