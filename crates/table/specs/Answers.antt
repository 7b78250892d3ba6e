-- What an answer stands for, what a call promises of it, and the mark that its caller then keeps.
use Rattle.std.specs.Prelude.{ℕ, ◌≡◌, List, Result, Ok, Err}
use Rattle.instruction.specs.Instruction.{Instr}
use Rattle.table.specs.Call.{Reply, ok, refused, call_on}
use Rattle.table.specs.Refusals.{number_of}
use Rattle.table.specs.declared.Accepted.{Accepted}
use Rattle.table.specs.declared.Refusal.{Refusal}

-- what a call answers
abbrev pub Answer : Type 0
Answer = Result Accepted Refusal

abbrev pub found : ℕ → ℕ → Answer
found p m = Ok (record { position = p; mark = m })

-- an accepted call's position and mark, or a refusal's number
abbrev pub reply_of : Answer → Reply
reply_of (Ok a) = ok a.position a.mark
reply_of (Err e) = refused (number_of e)

-- the same of a line, which may say any number: 10 answers a script, and no call
abbrev pub said : Result Accepted ℕ → Reply
said (Ok a) = ok a.position a.mark
said (Err n) = refused n

-- on the cells c and the mark m
abbrev pub Answered : List ℕ → ℕ → Instr → Answer → List ℕ → Type 0
Answered c m i r c' = (reply_of r ≡ (call_on c m i).reply) × (c' ≡ (call_on c m i).cells)

-- what 01's table gives: the number, 0 for acceptance, with the position and the mark. A refusal has position 0 and the old mark.
pub record Told : Type 0 where
  pub number : ℕ
  pub position : ℕ
  pub mark : ℕ

abbrev pub told : ℕ → Reply → Told
told m (ok p n) = record { number = 0; position = p; mark = n }
told m (refused k) = record { number = k; position = 0; mark = m }

-- a refusal leaves the mark as it was
abbrev pub mark_after : ℕ → Reply → ℕ
mark_after m (ok p m') = m'
mark_after m (refused n) = m
