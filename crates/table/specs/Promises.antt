-- What document 01 promises of a call: which refusal is given (demand 1), what is left, and what a call that is not refused builds (demand 3).
use Rattle.std.specs.Prelude.{◌≡◌, ℕ, ◌≤◌, ◌<◌, Bool, true, false, not, ◌&&◌, ◌||◌, List, [], ◌∷◌, ◌++◌, length, eqb, ltb}
use Rattle.arena.specs.Lists.{all, odds}
use Rattle.arena.specs.Nodes.{Nodes, mark, node_at, Out}
use Rattle.arena.specs.Cells.{used, padded}
use Rattle.arena.specs.Walks.{is_lit}
use Rattle.arena.specs.WellFormed.{is_type, is_term, well_formed, formed, IsArena}
use Rattle.arena.specs.Meaning.{ty_at, Interp, Good, meaning}
use Rattle.instruction.specs.Instruction.{Instr}
use Rattle.table.specs.Table.{Sort, ty, tm, Shape, fixed, pairs, run, known, row}
use Rattle.table.specs.Senses.{Sense}
use Rattle.table.specs.Answers.{mark_after}
use Rattle.table.specs.Call.{Test, test, tests, ok, refused, build, Lent, lent, call_on}

-- ---- which refusal is given

-- the refusals' numbers and tests, in their order, of an instruction on lent cells and a mark; 2 has two
unfoldable pub refusals : List ℕ → ℕ → Instr → List Test
refusals c m i =
    test 1 (not (formed c m))
    ∷ test 2 (not (known i.op))
    ∷ tests (used c m) i (row i.op)
    ++ (test 9 (ltb (length c) (mark (build (used c m) i).arena)) ∷ [])

-- a test with the number n holds
unfoldable pub applies : ℕ → List Test → Bool
applies n [] = false
applies n (test k b ∷ ts) = b && eqb k n || applies n ts

-- n is the smallest number that applies
pub record Smallest (n : ℕ) (ts : List Test) : Type 0 where
  pub holds : applies n ts ≡ true
  pub least : (k : ℕ) → k < n → applies k ts ≡ false

pub record Exact (c : List ℕ) (m : ℕ) (i : Instr) : Type 0 where
  -- n is given exactly when it is the smallest number that applies
  pub given : (n : ℕ) → (call_on c m i).reply ≡ refused n → Smallest n (refusals c m i)
  pub gives : (n : ℕ) → Smallest n (refusals c m i) → (call_on c m i).reply ≡ refused n
  -- a refusal changes no cell
  pub unchanged : (n : ℕ) → (call_on c m i).reply ≡ refused n → (call_on c m i).cells ≡ c
  -- where none applies: the position and the mark of what is built, and its cells
  pub accepted : ((n : ℕ) → applies n (refusals c m i) ≡ false)
      → let o = build (used c m) i in call_on c m i ≡ lent (ok o.at (mark o.arena)) (padded (length c) o.arena)

-- ---- what is left

-- what a call on the cells c and the mark m leaves is an arena again, of as many cells
pub record After (c : List ℕ) (m : ℕ) (d : Lent) : Type 0 where
  pub arena : IsArena d.cells (mark_after m d.reply)
  pub long : length d.cells ≡ length c
  -- a position and a mark are at most the number of cells, a refusal's number is at most 9
  pub place : (p n : ℕ) → d.reply ≡ ok p n → (p ≤ length c) × (n ≤ length c)
  pub number : (k : ℕ) → d.reply ≡ refused k → k ≤ 9

-- ---- what is built

-- of operands of these sorts and then terms, those that are terms
unfoldable pub terms_by : List Sort → List ℕ → List ℕ
terms_by [] xs = xs
terms_by (s ∷ ss) [] = []
terms_by (ty ∷ ss) (x ∷ xs) = terms_by ss xs
terms_by (tm ∷ ss) (x ∷ xs) = x ∷ terms_by ss xs

-- the operands that are terms
unfoldable pub terms : Shape → List ℕ → List ℕ
terms (fixed ss) xs = terms_by ss xs
terms (pairs ty) xs = []
terms (pairs tm) xs = odds xs
terms (run ss) xs = terms_by ss xs

-- the term at x is the same in b as in a: its node, its type by structure, its meaning
pub record Kept (a b : Nodes) (x : ℕ) : Type 0 where
  pub isterm : is_term b x ≡ true
  pub node : node_at b x ≡ node_at a x
  pub typed : ty_at b x ≡ ty_at a x
  pub means : (I : Interp) → meaning I b x ≡ meaning I a x

-- o is what i built in a, and s its operation's type and meaning
pub record Meant (a : Nodes) (i : Instr) (s : Sense) (o : Out) : Type 0 where
  pub formed : well_formed o.arena ≡ true
  pub older : (x : ℕ) → is_term a x ≡ true → Kept a o.arena x
  pub isterm : is_term o.arena o.at ≡ true
  pub typed : ty_at o.arena o.at ≡ s.type a i.par i.operands
  pub means : (I : Interp) → Good I → meaning I o.arena o.at ≡ s.means I a i.par i.operands
  -- literal operands give a literal
  pub literal : all (is_lit a) (terms (row i.op).shape i.operands) ≡ true → s.opens a i.operands ≡ false → is_lit o.arena o.at ≡ true

-- o is a type that an operation from 1 to 5 built in a
pub record TypeBuilt (a : Nodes) (o : Out) : Type 0 where
  pub formed : well_formed o.arena ≡ true
  pub older : (x : ℕ) → is_term a x ≡ true → Kept a o.arena x
  pub istype : is_type o.arena o.at ≡ true
