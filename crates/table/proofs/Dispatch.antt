-- What the dispatcher is told of an accepted instruction, by the number of its operation. Assumes nothing.
use mathlib.Core.Path.{◌≡◌, refl, ap, subst}
use Prim.Native.Nat.{ℕ, ◌+◌, ◌≤◌, ◌<◌}
use native.Mathlib.Omega.{arith}
use mathlib.Core.Bool.{Bool, true, false}
use mathlib.Core.List.{List, [], ◌∷◌}
use lib.ListN.{length, drop}
use lib.Dec.{leb}
use borrow.Author.Tests.{leb-true, leb-false}
use Rattle.arena.specs.Nodes.{Nodes}
use Rattle.table.specs.Table.{Row, bvapp_row, bvcmp_row, bvso_row, table, row_of, known, row}
use Rattle.table.specs.Forms.{instr, Passes}
use Rattle.table.proofs.Fits.{Passed, passed}
use Rattle.table.proofs.Numbers.{told, one_by_one, known_past, known-top}

pub accepted-known : (a : Nodes) (o p : ℕ) (xs : List ℕ) → Passes a o p xs → known o ≡ true
accepted-known a o p xs h = (passed a (instr o p (length xs) xs) h).listed

-- the tests passed, by the operation's own row
pub passed_row : (a : Nodes) (o p : ℕ) (xs : List ℕ) (r : Row) → row o ≡ r → Passes a o p xs → Passed a (instr o p (length xs) xs) r
passed_row a o p xs r e h = subst (Passed a (instr o p (length xs) xs)) e (passed a (instr o p (length xs) xs) h)

pub passed_at : (a : Nodes) (o p : ℕ) (xs : List ℕ) (k : ℕ) → o ≡ k → Passes a o p xs → Passed a (instr k p (length xs) xs) (row k)
passed_at a o p xs k e h = subst (λ (n : ℕ). Passed a (instr n p (length xs) xs) (row n)) e (passed a (instr o p (length xs) xs) h)

-- what is built, by the operation's own row
pub build-row : (a : Nodes) (o p : ℕ) (xs : List ℕ) (r : Row) → row o ≡ r → (row o).build a p xs ≡ r.build a p xs
build-row a o p xs r e = ap (λ (q : Row). q.build a p xs) e

pub build-at : (a : Nodes) (o p : ℕ) (xs : List ℕ) (k : ℕ) → o ≡ k → (row o).build a p xs ≡ (row k).build a p xs
build-at a o p xs k e = ap (λ (n : ℕ). (row n).build a p xs) e

-- rows that the number is handed to
pub app-row : (o : ℕ) → 31 ≤ o → o ≤ 40 → row o ≡ bvapp_row o
unfolding told row row_of table
app-row o h k = one_by_one row bvapp_row 31 10 refl o h (omega arith)

pub cmp_row : (o : ℕ) → 41 ≤ o → o ≤ 44 → row o ≡ bvcmp_row o
unfolding told row row_of table
cmp_row o h k = one_by_one row bvcmp_row 41 4 refl o h (omega arith)

pub so_row : (o : ℕ) → 46 ≤ o → o ≤ 48 → row o ≡ bvso_row o
unfolding told row row_of table
so_row o h k = one_by_one row bvso_row 46 3 refl o h (omega arith)

-- a number that is not the least it can be, and one with no room left
pub up : {o lo : ℕ} → lo ≤ o → (o ≡ lo → ⊥) → lo + 1 ≤ o
up h n = omega arith

pub same : {o k : ℕ} → k ≤ o → o ≤ k → o ≡ k
same h l = omega arith

-- the groups of operations
module _ (o : ℕ) (k : known o ≡ true) where
  pub a_type : o < 10 → (1 ≤ o) × (o ≤ 5)
  unfolding told known row_of table
  a_type h = (known_past 0 1 refl o k (omega arith), go (leb o 5) refl)
    where
      go : (b : Bool) → leb o 5 ≡ b → o ≤ 5
      go true e = leb-true o 5 e
      go false e = let l = leb-false o 5 e in let m = known_past 6 4 refl o k (omega arith) in omega arith

  pub from_core : 16 < o → 20 ≤ o
  unfolding told known row_of table
  from_core h = known_past 17 3 refl o k (omega arith)

  pub from_bitvectors : 26 < o → 30 ≤ o
  unfolding told known row_of table
  from_bitvectors h = known_past 27 3 refl o k (omega arith)

  pub from_helpers : 56 < o → 60 ≤ o
  unfolding told known row_of table
  from_helpers h = known_past 57 3 refl o k (omega arith)

  pub from_compiled : 66 < o → (70 ≤ o) × (o ≤ 75)
  unfolding told known row_of table
  from_compiled h = (known_past 67 3 refl o k (omega arith), known-top o k)

-- no operand is left after the first of none
pub rest_none : (xs : List ℕ) → length xs ≡ 0 → xs ≡ drop 1 xs
rest_none [] e = refl
rest_none (x ∷ xs) e = absurd (omega arith)
