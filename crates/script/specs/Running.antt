-- What the functions of the runner ask and promise.
use Rattle.std.specs.Prelude.{ℕ, ◌≤◌, ◌≡◌, List, length}
use Rattle.arena.specs.WellFormed.{IsArena}
use Rattle.codec.specs.Writing.{Puts}
use Rattle.script.specs.Script.{longest, lent, state, step, ran, answers, cells_after}
use Rattle.script.specs.declared.Place.{Place}

-- bytes that hold every output: 13 for three that are read, of 65,536, and the 45 that the writer of a line asks for
abbrev pub room : ℕ
room = 284034

-- one step: its line behind the others, and the state that it leaves
pub record Stepped (bytes c out : List ℕ) (p r : Place) (c' out' : List ℕ) : Type 0 where
  pub written : Puts out p.end (step bytes (state c p.mark p.at)).text r.end out'
  pub moved : state c' r.mark r.at ≡ (step bytes (state c p.mark p.at)).next

-- all steps of a script that is not too long, from an arena
pub record Ready (bytes c : List ℕ) (m : ℕ) (out : List ℕ) : Type 0 where
  pub short : length bytes ≤ longest
  pub arena : IsArena c m
  pub long : length c ≡ lent
  pub roomy : room ≤ length out

pub record Walked (bytes c : List ℕ) (m : ℕ) (out : List ℕ) (r : ℕ) (c' out' : List ℕ) : Type 0 where
  pub written : Puts out 0 (ran bytes (state c m 0)).text r out'
  pub left : c' ≡ (ran bytes (state c m 0)).next.cells

-- the whole: the answers at the front of the lent bytes, those behind them as they were, and every cell
pub record Ran (bytes c out : List ℕ) (r : ℕ) (c' out' : List ℕ) : Type 0 where
  pub written : Puts out 0 (answers bytes) r out'
  pub left : c' ≡ cells_after bytes c
