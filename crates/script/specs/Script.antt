-- Document 01's 'Scripts for the bench program': what is written, as a function of what is read.
use Rattle.std.specs.Prelude.{ℕ, zero, suc, cond, List, [], ◌++◌, leb, length}
use Rattle.arena.specs.Nodes.{mark, fresh}
use Rattle.arena.specs.Cells.{padded}
use Rattle.instruction.specs.Instruction.{Instr}
use Rattle.codec.specs.Instructions.{Reading, whole, bad, instruction_at}
use Rattle.answers.specs.Lines.{refused_line}
use Rattle.answers.specs.Replies.{line_of}
use Rattle.table.specs.Call.{call_on}
use Rattle.table.specs.Answers.{mark_after}

-- bytes that are read at most
abbrev pub longest : ℕ
longest = 65536

-- cells that are lent
abbrev pub lent : ℕ
lent = 8192

-- where a script stands: every cell, the mark, and the place of the next byte
pub record State : Type 0 where
  pub cells : List ℕ
  pub mark : ℕ
  pub at : ℕ

abbrev pub state : List ℕ → ℕ → ℕ → State
state c m at = record { cells = c; mark = m; at = at }

-- a fresh arena, and the first byte
abbrev pub start : State
start = state (padded lent fresh) (mark fresh) 0

-- what is written, and where the script then stands
pub record Step : Type 0 where
  pub text : List ℕ
  pub next : State

abbrev pub wrote : List ℕ → State → Step
wrote t s = record { text = t; next = s }

-- an instruction, and the place behind it: the one call's answer on the arena left before it
abbrev pub called : State → Instr → ℕ → Step
called s i behind =
    let l = call_on s.cells s.mark i in wrote (line_of l.reply) (state l.cells (mark_after s.mark l.reply) behind)

-- what was read; a bad, cut or missing number, or a count above 257, is refused, and no byte is left
unfoldable pub step_on : ℕ → State → Reading → Step
step_on end s (whole i behind) = called s i behind
step_on end s bad = wrote (refused_line 10) (state s.cells s.mark end)

abbrev pub step : List ℕ → State → Step
step bytes s = step_on (length bytes) s (instruction_at bytes s.at)

-- a text in front of what is written
abbrev pub onto : List ℕ → Step → Step
onto t r = wrote (t ++ r.text) r.next

-- steps until no byte is left, at most k
unfoldable pub steps : ℕ → List ℕ → State → Step
steps zero bytes s = wrote [] s
steps (suc k) bytes s =
    cond (leb (length bytes) s.at) (wrote [] s) (let t = step bytes s in let r = steps k bytes t.next in onto t.text r)

-- all steps: each passes a byte or more
abbrev pub ran : List ℕ → State → Step
ran bytes s = steps (length bytes) bytes s

-- the whole output
unfoldable pub answers : List ℕ → List ℕ
answers bytes = cond (leb (length bytes) longest) (ran bytes start).text (refused_line 10)

-- every cell afterwards, of lent cells c
unfoldable pub cells_after : List ℕ → List ℕ → List ℕ
cells_after bytes c = cond (leb (length bytes) longest) (ran bytes start).next.cells c
