-- What a writer leaves in the bytes that it was lent.
use Rattle.std.specs.Prelude.{ℕ, ◌+◌, ◌≡◌, Bool, cond, Option, Some, None, List, ◌++◌, leb, length, take, drop}
use Rattle.codec.specs.Numbers.{groups}

-- others in the place of the bytes from a place on; those before and behind stay
unfoldable pub put : List ℕ → ℕ → List ℕ → List ℕ
put out at bytes = take at out ++ bytes ++ drop (at + length bytes) out

-- what a writer promises: it puts the bytes at a place, and returns the place behind them
pub record Puts (out : List ℕ) (at : ℕ) (bytes : List ℕ) (end : ℕ) (after : List ℕ) : Type 0 where
  pub behind : end ≡ at + length bytes
  pub bytewise : after ≡ put out at bytes

-- whether as many bytes have room from a place on
unfoldable pub fits : List ℕ → ℕ → ℕ → Bool
fits out at count = leb (at + count) (length out)

-- a number: the place behind its groups, and the bytes afterwards; nothing changes where there is no room
unfoldable pub written_of : List ℕ → ℕ → ℕ → Option ℕ
written_of out at n = cond (fits out at (length (groups n))) (Some (at + length (groups n))) None

unfoldable pub with_number : List ℕ → ℕ → ℕ → List ℕ
with_number out at n = cond (fits out at (length (groups n))) (put out at (groups n)) out
