-- Document 01's script, and numbers at the edges, computed from the definitions: one table, one statement.
use mathlib.Core.Path.{◌≡◌, refl}
use mathlib.Core.Bool.{Bool, true, false, ◌&&◌}
use mathlib.Core.List.{List, [], ◌∷◌, ◌++◌}
use Prim.Native.Nat.{ℕ, ◌-◌, ◌^◌}
use lib.Dec.{eqb}
use Rattle.codec.specs.declared.Number.{Number}
use Rattle.std.proofs.Common.{Option, Some, None}
use Rattle.codec.specs.Digits.{digits_in, digits}
use Rattle.codec.specs.Numbers.{marked, groups, value, run, same, number_of, number_at}
use Rattle.codec.specs.Instructions.{Reading, whole, bad, onto, first, numbers_at, after, operands, instruction_at}

abbrev every : List Bool → Bool
every [] = true
every (b ∷ bs) = b && every bs

-- whether the bytes are a number that ends behind them, and whether they are none
is : ℕ → List ℕ → ℕ → Bool
is n bytes next = go (number_at bytes 0)
  where
    go : Option Number → Bool
    go (Some m) = eqb m.value n && eqb m.next next
    go None = false

is_bad : List ℕ → Bool
is_bad bytes = go (number_at bytes 0)
  where
    go : Option Number → Bool
    go (Some m) = false
    go None = true

-- whether an instruction stands at a place, and whether none does
reads : List ℕ → ℕ → ℕ → ℕ → List ℕ → ℕ → Bool
reads bytes at op par ns next = go (instruction_at bytes at)
  where
    go : Reading → Bool
    go (whole i k) = eqb i.op op && eqb i.par par && same i.operands ns && eqb k next
    go bad = false

reads_none : List ℕ → ℕ → Bool
reads_none bytes at = go (instruction_at bytes at)
  where
    go : Reading → Bool
    go (whole i k) = false
    go bad = true

-- the script of document 01
script : List ℕ
script = 0x02 ∷ 0x40 ∷ 0x00 ∷ 0x0b ∷ 0x05 ∷ 0x01 ∷ 0x0c ∷ 0x1e ∷ 0x00 ∷ 0x01 ∷ 0x10 ∷ 0x14 ∷ 0x00 ∷ 0x01 ∷ 0x10 ∷ []

-- nine groups of ones
nine : List ℕ
nine = 255 ∷ 255 ∷ 255 ∷ 255 ∷ 255 ∷ 255 ∷ 255 ∷ 255 ∷ 255 ∷ []

examples : List Bool
examples =
    reads script 0 2 64 [] 3
    ∷ reads script 3 11 5 (12 ∷ []) 7
    ∷ reads script 7 30 0 (16 ∷ []) 11
    ∷ reads script 11 20 0 (16 ∷ []) 15
    ∷ reads_none script 15
    -- a cut instruction, a count of 258, and one of 257 whose operands are missing
    ∷ reads_none (0x0b ∷ 0x05 ∷ 0x01 ∷ []) 0
    ∷ reads_none (0x0e ∷ 0x00 ∷ 0x82 ∷ 0x02 ∷ []) 0
    ∷ reads_none (0x0e ∷ 0x00 ∷ 0x81 ∷ 0x02 ∷ []) 0
    -- one group, two groups, and what stands behind
    ∷ is 0 (0 ∷ []) 1
    ∷ is 127 (127 ∷ 9 ∷ []) 1
    ∷ is 128 (128 ∷ 1 ∷ 9 ∷ []) 2
    ∷ is 300 (172 ∷ 2 ∷ []) 2
    -- no bytes, cut numbers, long forms
    ∷ is_bad []
    ∷ is_bad (128 ∷ [])
    ∷ is_bad nine
    ∷ is_bad (128 ∷ 0 ∷ [])
    ∷ is_bad (129 ∷ 128 ∷ 0 ∷ [])
    -- 2 ^ 64 - 1, 2 ^ 64, and eleven groups
    ∷ is (2 ^ 64 - 1) (nine ++ (1 ∷ [])) 10
    ∷ is_bad (128 ∷ 128 ∷ 128 ∷ 128 ∷ 128 ∷ 128 ∷ 128 ∷ 128 ∷ 128 ∷ 2 ∷ [])
    ∷ is_bad (nine ++ (129 ∷ 0 ∷ []))
    ∷ is_bad (nine ++ (129 ∷ 1 ∷ []))
    ∷ same (groups (2 ^ 64 - 1)) (nine ++ (1 ∷ []))
    ∷ []

examples_hold : every examples ≡ true
unfolding examples is is_bad reads reads_none script nine digits_in digits marked groups value run same number_of number_at onto first numbers_at after operands instruction_at
examples_hold = refl
