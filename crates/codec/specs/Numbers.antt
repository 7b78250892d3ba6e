-- A number in groups of seven bits, low group first, the top bit set on all but the last, in the fewest groups, below 2 ^ 64.
use Rattle.std.specs.Prelude.{ℕ, ◌+◌, ◌*◌, ◌%◌, ◌^◌, ◌<◌, ◌≡◌, Bool, true, false, cond, ◌&&◌, Option, Some, None, List, [], ◌∷◌, ◌++◌, eqb, ltb, length, drop}
use Rattle.codec.specs.Digits.{digits}
use Rattle.codec.specs.declared.Number.{Number}

-- the top bit set on all but the last
unfoldable pub marked : List ℕ → List ℕ
marked [] = []
marked (g ∷ []) = g ∷ []
marked (g ∷ h ∷ gs) = (128 + g) ∷ marked (h ∷ gs)

-- the encoding
unfoldable pub groups : ℕ → List ℕ
groups n = marked (digits 128 n)

-- the number that groups stand for
unfoldable pub value : List ℕ → ℕ
value [] = 0
value (g ∷ gs) = g % 128 + 128 * value gs

-- the groups up to the first whose top bit is not set
unfoldable pub run : List ℕ → List ℕ
run [] = []
run (g ∷ gs) = g ∷ cond (ltb g 128) [] (run gs)

-- whether two lists are equal
unfoldable pub same : List ℕ → List ℕ → Bool
same [] [] = true
same [] (y ∷ ys) = false
same (x ∷ xs) [] = false
same (x ∷ xs) (y ∷ ys) = eqb x y && same xs ys

-- a number that was read, and the place behind it
abbrev pub read : ℕ → ℕ → Option Number
read n next = Some (record { value = n; next = next })

-- groups that start at a place: where they are the encoding of a number below 2 ^ 64 that number, and the place behind them
unfoldable pub number_of : ℕ → List ℕ → Option Number
number_of at gs =
    cond (same gs (groups (value gs)))
    (cond (ltb (value gs) (2 ^ 64)) (read (value gs) (at + length gs)) None)
    None

-- the number at a place of the bytes
unfoldable pub number_at : List ℕ → ℕ → Option Number
number_at bytes at = number_of at (run (drop at bytes))

-- decoding said by the encoding: the groups of a number below 2 ^ 64 stand at a place, and `next` is the place behind them
pub record Begins (bytes : List ℕ) (at n next : ℕ) : Type 0 where
  pub small : n < 2 ^ 64
  pub stands : drop at bytes ≡ groups n ++ drop next bytes
  pub behind : next ≡ at + length (groups n)
