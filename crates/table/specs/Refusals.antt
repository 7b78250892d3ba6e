-- A refusal's number and words, document 01's.
use Rattle.std.specs.Prelude.{ℕ, List, Result, Ok, Err, codes}
use Rattle.table.specs.declared.Refusal.{Refusal}
use Rattle.table.specs.declared.Refusal.TheVariants.{NotAnArena, NotAnInstruction, TooMany, NotAPosition, WrongType, WrongWidth, TooLarge, AbsentAttribute, NoRoom}

abbrev pub number_of : Refusal → ℕ
number_of NotAnArena = 1
number_of NotAnInstruction = 2
number_of TooMany = 3
number_of NotAPosition = 4
number_of WrongType = 5
number_of WrongWidth = 6
number_of TooLarge = 7
number_of AbsentAttribute = 8
number_of NoRoom = 9

-- 0 where nothing is refused
abbrev pub number_or_0 : {T : Type 0} → Result T Refusal → ℕ
number_or_0 (Ok x) = 0
number_or_0 (Err e) = number_of e

abbrev pub words_of : Refusal → List ℕ
words_of NotAnArena = codes "arena length outside 12 to 65,536, mark above it, or arena not well formed"
words_of NotAnInstruction = codes "unknown operation, wrong operand count, or a parameter not 0 where none is taken"
words_of TooMany = codes "more set members, fields or options listed than the limit"
words_of NotAPosition = codes "an operand is not the start of a term, or type, as needed"
words_of WrongType = codes "an operand's type is not the one named, the type given to a bitvec literal is no Bitvec, or an element type contains a set"
words_of WrongWidth = codes "width 0 or above 64, also after zero_extend"
words_of TooLarge = codes "literal not below 2 to the width; bool literal above 1; attribute or id too large; unordered type fields"
words_of AbsentAttribute = codes "absent attribute"
words_of NoRoom = codes "a node that the steps add does not fit below the arena's end"
