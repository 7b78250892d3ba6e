-- Document 01's lines, and numbers at the edges, computed from the definitions: one table, one statement.
use mathlib.Core.Path.{◌≡◌, refl}
use mathlib.Core.Bool.{Bool, true, ◌&&◌}
use mathlib.Core.List.{List, [], ◌∷◌}
use Prim.Native.Nat.{◌-◌, ◌^◌}
use Rattle.codec.specs.Digits.{digits_in, digits}
use Rattle.codec.specs.Numbers.{same}
use Rattle.answers.specs.Lines.{text, decimal, field, ok_line, refused_line}

abbrev every : List Bool → Bool
every [] = true
every (b ∷ bs) = b && every bs

-- 'ok 12 16', 'refused 5', 'refused 10', and the longest number
examples : List Bool
examples =
    same (ok_line 12 16) (111 ∷ 107 ∷ 32 ∷ 49 ∷ 50 ∷ 32 ∷ 49 ∷ 54 ∷ 10 ∷ [])
    ∷ same (refused_line 5) (114 ∷ 101 ∷ 102 ∷ 117 ∷ 115 ∷ 101 ∷ 100 ∷ 32 ∷ 53 ∷ 10 ∷ [])
    ∷ same (refused_line 10) (114 ∷ 101 ∷ 102 ∷ 117 ∷ 115 ∷ 101 ∷ 100 ∷ 32 ∷ 49 ∷ 48 ∷ 10 ∷ [])
    ∷ same (decimal 0) (48 ∷ [])
    ∷ same (decimal (2 ^ 64 - 1)) (49 ∷ 56 ∷ 52 ∷ 52 ∷ 54 ∷ 55 ∷ 52 ∷ 52 ∷ 48 ∷ 55 ∷ 51 ∷ 55 ∷ 48 ∷ 57 ∷ 53 ∷ 53 ∷ 49 ∷ 54 ∷ 49 ∷ 53 ∷ [])
    ∷ []

examples_hold : every examples ≡ true
unfolding examples digits_in digits same text decimal field ok_line refused_line
examples_hold = refl
