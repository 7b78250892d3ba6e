-- Numbered tests in their order: the first that holds is the one of the smallest number. Assumes nothing.
use mathlib.Core.Path.{◌≡◌, refl, sym, ◌∙◌}
use Prim.Native.Nat.{ℕ, suc, ◌≤◌, ◌<◌}
use native.Mathlib.Omega.{arith}
use mathlib.Core.Bool.{Bool, true, false}
use mathlib.Core.List.{List, [], ◌∷◌, ◌++◌}
use lib.Dec.{ltb}
use borrow.Author.Tests.{ltb-true, ltb-false, eq-eqb, ne_eqb}
use Rattle.arena.specs.Nodes.{Nodes}
use Rattle.arena.proofs.Bools.{t≢f}
use Rattle.instruction.specs.Instruction.{Instr}
use Rattle.table.specs.Table.{Row}
use Rattle.table.specs.Call.{Test, test, first_of, tests}
use Rattle.table.specs.Promises.{applies, Smallest}

-- none of the tests holds
abbrev pub Quiet : List Test → Type 0
Quiet [] = Unit {0}
Quiet (test n b ∷ ts) = (b ≡ false) × Quiet ts

-- the numbers are lo or more, and none falls
abbrev pub Rising : ℕ → List Test → Type 0
Rising lo [] = Unit {0}
Rising lo (test n b ∷ ts) = (lo ≤ n) × Rising n ts

pub tests_rise : (a : Nodes) (i : Instr) (r : Row) → Rising 2 (tests a i r)
unfolding tests
tests_rise a i r = (omega arith, (omega arith, (omega arith, (omega arith, (omega arith, (omega arith, (omega arith, tt)))))))

pub quiet : (lo : ℕ) (ts : List Test) → Rising lo ts → 1 ≤ lo → first_of ts ≡ 0 → Quiet ts
unfolding first_of
quiet lo [] r h e = tt
quiet lo (test k true ∷ ts) r h e = let l = r.0 in absurd (omega arith)
quiet lo (test k false ∷ ts) r h e = let l = r.0 in (refl, quiet k ts r.1 (omega arith) e)

pub quiet_none : (ts : List Test) → Quiet ts → (n : ℕ) → applies n ts ≡ false
unfolding applies
quiet_none [] q n = refl
quiet_none (test k b ∷ ts) q n = rw q.0 (quiet_none ts q.1 n)

-- ---- the smallest number

none_below : (lo : ℕ) (ts : List Test) → Rising lo ts → (n : ℕ) → n < lo → applies n ts ≡ false
unfolding applies
none_below lo [] r n h = refl
none_below lo (test k false ∷ ts) r n h = let l = r.0 in none_below k ts r.1 n (omega arith)
none_below lo (test k true ∷ ts) r n h = let l = r.0 in rw (ne_eqb k n (λ z. omega arith)) (none_below k ts r.1 n (omega arith))

pub smallest : (lo : ℕ) (ts : List Test) → Rising lo ts → (n : ℕ) → 1 ≤ n → first_of ts ≡ n → Smallest n ts
unfolding first_of applies
smallest lo [] r n h e = absurd (omega arith)
smallest lo (test k true ∷ ts) r n h e =
    record { holds = rw (eq-eqb k n e); least = λ j l. rw (ne_eqb k j (λ z. omega arith)) (none_below k ts r.1 j (omega arith)) }
smallest lo (test k false ∷ ts) r n h e = let s = smallest k ts r.1 n h e in record { holds = s.holds; least = s.least }

pub smallest_one : {m n : ℕ} {ts : List Test} → Smallest m ts → Smallest n ts → m ≡ n
smallest_one {m} {n} s t = go (ltb m n) refl (ltb n m) refl
  where
    go : (b : Bool) → ltb m n ≡ b → (d : Bool) → ltb n m ≡ d → m ≡ n
    go true e d f = t≢f (sym s.holds ∙ t.least m (ltb-true m n e))
    go false e true f = t≢f (sym t.holds ∙ s.least n (ltb-true n m f))
    go false e false f = let x = ltb-false m n e in let y = ltb-false n m f in omega arith

-- ---- a list after another

pub first_found : (ts us : List Test) (k : ℕ) → first_of ts ≡ suc k → first_of (ts ++ us) ≡ suc k
unfolding first_of
first_found [] us k e = absurd (omega arith)
first_found (test n true ∷ ts) us k e = e
first_found (test n false ∷ ts) us k e = first_found ts us k e

pub first_on : (ts us : List Test) → Quiet ts → first_of (ts ++ us) ≡ first_of us
unfolding first_of
first_on [] us q = refl
first_on (test n b ∷ ts) us q = rw q.0 (first_on ts us q.1)
