-- Document 01's refusal numbers in their order, and a whole call.
use Rattle.std.specs.Prelude.{ℕ, zero, suc, ◌+◌, ◌%◌, Bool, true, false, not, cond, ◌&&◌, ◌||◌, List, [], ◌∷◌, length, eqb, leb, ltb}
use Rattle.arena.specs.Lists.{all, odds}
use Rattle.arena.specs.Nodes.{Nodes, mark, Out}
use Rattle.arena.specs.Cells.{used, padded}
use Rattle.arena.specs.WellFormed.{is_type, is_term, formed}
use Rattle.instruction.specs.Instruction.{Instr}
use Rattle.table.specs.Table.{Sort, ty, tm, Shape, fixed, pairs, run, Row, known, row}

-- ---- refusals 2 to 8: numbered tests, of which the first that holds is given

-- the right number of operands
unfoldable pub count_ok : Shape → ℕ → Bool
count_ok (fixed ss) n = eqb n (length ss)
count_ok (pairs s) n = eqb (n % 2) 0
count_ok (run ss) n = leb (length ss) n

-- more listed than the limit
unfoldable pub too_many : Shape → ℕ → Bool
too_many (fixed ss) n = false
too_many (pairs s) n = ltb 128 n
too_many (run ss) n = ltb (length ss + 256) n

unfoldable pub sort_ok : Nodes → Sort → ℕ → Bool
sort_ok a ty x = is_type a x
sort_ok a tm x = is_term a x

-- the first ones of these sorts, the others terms
unfoldable pub sorts_ok : Nodes → List Sort → List ℕ → Bool
sorts_ok a [] [] = true
sorts_ok a (s ∷ ss) [] = false
sorts_ok a [] (x ∷ xs) = sort_ok a tm x && sorts_ok a [] xs
sorts_ok a (s ∷ ss) (x ∷ xs) = sort_ok a s x && sorts_ok a ss xs

unfoldable pub operands_ok : Nodes → Shape → List ℕ → Bool
operands_ok a (fixed ss) xs = sorts_ok a ss xs
operands_ok a (pairs s) xs = all (sort_ok a s) (odds xs)
operands_ok a (run ss) xs = sorts_ok a ss xs

pub data Test : Type 0 where
  test : ℕ → Bool → Test

unfoldable pub first_of : List Test → ℕ
first_of [] = 0
first_of (test n b ∷ ts) = elim b [ true ↦ n | false ↦ first_of ts ]

-- of an instruction whose operation has the row r
unfoldable pub tests : Nodes → Instr → Row → List Test
tests a i r =
    test 2 (not (count_ok r.shape i.count) || (not r.takes && not (eqb i.par 0)))
    ∷ test 3 (too_many r.shape i.count)
    ∷ test 4 (not (operands_ok a r.shape i.operands))
    ∷ test 5 (r.five a i.operands)
    ∷ test 6 (r.six a i.par i.operands)
    ∷ test 7 (r.seven a i.par i.operands)
    ∷ test 8 (r.eight a i.par i.operands)
    ∷ []

-- refusals 2 to 8, or 0
unfoldable pub refusal : Nodes → Instr → ℕ
refusal a i = cond (known i.op) (first_of (tests a i (row i.op))) 2

-- ---- a call

pub data Reply : Type 0 where
  ok : ℕ → ℕ → Reply
  refused : ℕ → Reply

pub record Done : Type 0 where
  pub reply : Reply
  pub after : Nodes

abbrev pub done : Reply → Nodes → Done
done r a = record { reply = r; after = a }

-- what was built fits below the end of n cells, or 9
unfoldable pub fitted : ℕ → Nodes → Out → Done
fitted n a o = elim (leb (mark o.arena) n) [ true ↦ done (ok o.at (mark o.arena)) o.arena | false ↦ done (refused 9) a ]

-- what the operation builds
abbrev pub build : Nodes → Instr → Out
build a i = (row i.op).build a i.par i.operands

-- in an arena of n cells
unfoldable pub call : ℕ → Nodes → Instr → Done
call n a i = elim (refusal a i) [ zero ↦ fitted n a (build a i) | suc k ↦ done (refused (suc k)) a ]

-- on lent cells and a mark: the answer and every cell afterwards
pub record Lent : Type 0 where
  pub reply : Reply
  pub cells : List ℕ

abbrev pub lent : Reply → List ℕ → Lent
lent r c = record { reply = r; cells = c }

unfoldable pub call_on : List ℕ → ℕ → Instr → Lent
call_on c m i =
    elim (formed c m) [ false ↦ lent (refused 1) c | true ↦ let d = call (length c) (used c m) i in lent d.reply (padded (length c) d.after) ]
