-- A call's contract allows one answer and one state of the cells: any two results that it allows are equal. Assumes nothing.
use mathlib.Core.Path.{◌≡◌, refl, sym, ap, ◌∙◌}
use Prim.Native.Nat.{ℕ}
use mathlib.Core.List.{List, [], ◌∷◌}
use lib.ListN.{get_or}
use Rattle.std.specs.Prelude.{Ok, Err}
use Rattle.instruction.specs.Instruction.{Instr}
use Rattle.table.specs.Answers.{Answer, reply_of, Answered}
use Rattle.table.specs.Refusals.{number_of}
use Rattle.table.specs.declared.Refusal.{Refusal}
use Rattle.table.specs.declared.Refusal.TheVariants.{NotAnArena, NotAnInstruction, TooMany, NotAPosition, WrongType, WrongWidth, TooLarge, AbsentAttribute, NoRoom}
use Rattle.table.proofs.Demand1.{differ}

-- two refusals of one number are equal
number_once : (x y : Refusal) → number_of x ≡ number_of y → x ≡ y
number_once x y e = sym (refusal_of-number x) ∙ ap refusal_of e ∙ refusal_of-number y
  where
    refusal_of : ℕ → Refusal
    refusal_of n = get_or (NoRoom ∷ NotAnArena ∷ NotAnInstruction ∷ TooMany ∷ NotAPosition ∷ WrongType ∷ WrongWidth ∷ TooLarge ∷ AbsentAttribute ∷ []) n NoRoom

    refusal_of-number : (x : Refusal) → refusal_of (number_of x) ≡ x
    refusal_of-number NotAnArena = refl
    refusal_of-number NotAnInstruction = refl
    refusal_of-number TooMany = refl
    refusal_of-number NotAPosition = refl
    refusal_of-number WrongType = refl
    refusal_of-number WrongWidth = refl
    refusal_of-number TooLarge = refl
    refusal_of-number AbsentAttribute = refl
    refusal_of-number NoRoom = refl

-- answers that stand for one reply are equal
pub reply_once : (r s : Answer) → reply_of r ≡ reply_of s → r ≡ s
reply_once (Ok a) (Ok b) e = let x : a.position ≡ b.position = cc in let y : a.mark ≡ b.mark = cc in λ j. Ok (record { position = x j; mark = y j })
reply_once (Ok a) (Err f) e = differ e
reply_once (Err e) (Ok b) q = differ (sym q)
reply_once (Err e) (Err f) q = let x : number_of e ≡ number_of f = cc in ap Err (number_once e f x)

pub answered_once : (c : List ℕ) (m : ℕ) (i : Instr) {r s : Answer} {c' d' : List ℕ} → Answered c m i r c' → Answered c m i s d' → (r ≡ s) × (c' ≡ d')
answered_once c m i {r} {s} a b = (reply_once r s (a.0 ∙ sym b.0), a.1 ∙ sym b.1)
