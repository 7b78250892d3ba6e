-- The lines that answer a script: fixed byte strings, decimal digits, and one newline byte.
use Rattle.std.specs.Prelude.{ℕ, ◌+◌, List, [], ◌∷◌, ◌++◌}
use Rattle.codec.specs.Digits.{digits}

-- digits as text: the highest first, each from byte 48, '0'
unfoldable pub text : List ℕ → List ℕ
text [] = []
text (d ∷ ds) = text ds ++ ((48 + d) ∷ [])

-- a number in decimal, in the fewest digits; 0 is '0'
unfoldable pub decimal : ℕ → List ℕ
decimal n = text (digits 10 n)

-- a fixed byte string, and a number behind it
unfoldable pub field : List ℕ → ℕ → List ℕ
field bytes n = bytes ++ decimal n

-- 'ok ', 'refused ', ' ' and a line's end
abbrev pub ok : List ℕ
ok = 111 ∷ 107 ∷ 32 ∷ []

abbrev pub refused : List ℕ
refused = 114 ∷ 101 ∷ 102 ∷ 117 ∷ 115 ∷ 101 ∷ 100 ∷ 32 ∷ []

abbrev pub space : List ℕ
space = 32 ∷ []

abbrev pub newline : List ℕ
newline = 10 ∷ []

-- 'ok P M'
unfoldable pub ok_line : ℕ → ℕ → List ℕ
ok_line p m = field ok p ++ field space m ++ newline

-- 'refused N'
unfoldable pub refused_line : ℕ → List ℕ
refused_line n = field refused n ++ newline
