-- Demand 1: the refusal given is the smallest number that applies, a refusal changes no cell, and where none applies the answer is what is built. Assumes nothing.
use mathlib.Core.Path.{◌≡◌, refl, sym, ap, ◌∙◌, subst}
use Prim.Native.Nat.{ℕ, zero, suc, ◌≤◌}
use native.Mathlib.Omega.{arith}
use mathlib.Core.Bool.{Bool, true, false, not, cond}
use mathlib.Core.List.{List, ◌∷◌, ◌++◌}
use lib.ListN.{length}
use lib.Dec.{leb}
use borrow.Author.Tests.{leb-true, leb-false, lt-ltb, le-ltb}
use Rattle.arena.specs.Nodes.{Nodes, mark}
use Rattle.arena.specs.Cells.{used, padded}
use Rattle.arena.specs.WellFormed.{formed}
use Rattle.arena.proofs.Bools.{t≢f}
use Rattle.arena.proofs.Formed.{formed-arena}
use Rattle.arena.proofs.Padded.{arena-cells}
use Rattle.instruction.specs.Instruction.{Instr}
use Rattle.table.specs.Table.{known, row}
use Rattle.table.specs.Call.{Test, test, first_of, tests, refusal, ok, refused, Done, done, fitted, build, call, Lent, lent, call_on}
use Rattle.table.specs.Promises.{refusals, Smallest, Exact}
use Rattle.table.proofs.First.{Rising, tests_rise, quiet, quiet_none, smallest, smallest_one, first_found, first_on}

-- the numbers are 1, 2, 2, 3 and so on to 9
refusals_rise : (c : List ℕ) (m : ℕ) (i : Instr) → Rising 1 (refusals c m i)
unfolding refusals tests
refusals_rise c m i = (omega arith, (omega arith, (omega arith, (omega arith, (omega arith, (omega arith, (omega arith, (omega arith, (omega arith, (omega arith, tt))))))))))

-- ---- refusals 2 to 8, and then others

module _ (a : Nodes) (i : Instr) (us : List Test) where
  abbrev following : List Test
  following = test 2 (not (known i.op)) ∷ tests a i (row i.op) ++ us

  refused-first : (k : ℕ) → refusal a i ≡ suc k → first_of following ≡ suc k
  unfolding refusal first_of
  refused-first k e = go (known i.op) e
    where
      go : (b : Bool) → cond b (first_of (tests a i (row i.op))) 2 ≡ suc k → first_of (test 2 (not b) ∷ tests a i (row i.op) ++ us) ≡ suc k
      go true z = first_found (tests a i (row i.op)) us k z
      go false z = z

  passed_first : refusal a i ≡ 0 → first_of following ≡ first_of us
  unfolding refusal first_of
  passed_first e = go (known i.op) e
    where
      go : (b : Bool) → cond b (first_of (tests a i (row i.op))) 2 ≡ 0 → first_of (test 2 (not b) ∷ tests a i (row i.op) ++ us) ≡ first_of us
      go true z = first_on (tests a i (row i.op)) us (quiet 2 (tests a i (row i.op)) (tests_rise a i (row i.op)) (omega arith) z)
      go false z = absurd (omega arith)

-- ---- the answer by the first test that holds

pub data Outcome (c : List ℕ) (m : ℕ) (i : Instr) : Type 0 where
  refuses : (n : ℕ) → first_of (refusals c m i) ≡ suc n → call_on c m i ≡ lent (refused (suc n)) c → Outcome c m i
  builds : first_of (refusals c m i) ≡ 0 → refusal (used c m) i ≡ 0 → mark (build (used c m) i).arena ≤ length c → (let o = build (used c m) i in call_on c m i ≡ lent (ok o.at (mark o.arena)) (padded (length c) o.arena)) → Outcome c m i

module _ (c : List ℕ) (m : ℕ) (i : Instr) where
  -- on a well-formed arena
  module _ (f : formed c m ≡ true) where
    called : (d : Done) → call (length c) (used c m) i ≡ d → call_on c m i ≡ lent d.reply (padded (length c) d.after)
    unfolding call_on
    called d e = rw (f, call_on) (ap (λ (x : Done). lent x.reply (padded (length c) x.after)) e)

    refused_as : (n : ℕ) → call (length c) (used c m) i ≡ done (refused n) (used c m) → call_on c m i ≡ lent (refused n) c
    refused_as n e = called (done (refused n) (used c m)) e ∙ ap (lent (refused n)) (sym (arena-cells (formed-arena c m f)))

    by_fit : refusal (used c m) i ≡ 0 → (b : Bool) → leb (mark (build (used c m) i).arena) (length c) ≡ b → Outcome c m i
    unfolding refusals first_of call fitted
    by_fit e true l =
        let o = build (used c m) i in
        builds (rw f (passed_first (used c m) i _ e ∙ rw (le-ltb (length c) (mark o.arena) (leb-true _ _ l)))) e (leb-true _ _ l) (called (done (ok o.at (mark o.arena)) o.arena) (rw (e, call, l, fitted)))
    by_fit e false l =
        let o = build (used c m) i in
        refuses 8 (rw f (passed_first (used c m) i _ e ∙ rw (lt-ltb (length c) (mark o.arena) (leb-false _ _ l)))) (refused_as 9 (rw (e, call, l, fitted)))

    by_refusal : (n : ℕ) → refusal (used c m) i ≡ n → Outcome c m i
    unfolding refusals first_of call
    by_refusal zero e = by_fit e (leb (mark (build (used c m) i).arena) (length c)) refl
    by_refusal (suc k) e = refuses k (rw f (refused-first (used c m) i _ k e)) (refused_as (suc k) (rw (e, call)))

  pub outcome : (b : Bool) → formed c m ≡ b → Outcome c m i
  unfolding refusals first_of call_on
  outcome false f = refuses 0 (rw f) (rw (f, call_on))
  outcome true f = by_refusal f (refusal (used c m) i) refl

-- ---- the demand

pub differ : {X : Type 0} {p q n : ℕ} → ok p q ≡ refused n → X
differ e = let z : ◌≡◌ {A = ℕ} 0 1 = cc in absurd (omega arith)

pub demand_1 : (c : List ℕ) (m : ℕ) (i : Instr) → Exact c m i
demand_1 c m i = go (outcome c m i (formed c m) refl)
  where
    rise : Rising 1 (refusals c m i)
    rise = refusals_rise c m i

    go : Outcome c m i → Exact c m i
    go (refuses k f e) =
        let s = smallest 1 (refusals c m i) rise (suc k) (omega arith) f in
        record {
          given = λ n q. let z : suc k ≡ n = cc in subst (λ (x : ℕ). Smallest x (refusals c m i)) z s;
          gives = λ n t. ap (λ (l : Lent). l.reply) e ∙ ap refused (smallest_one s t);
          unchanged = λ n q. ap (λ (l : Lent). l.cells) e;
          accepted = λ q. t≢f (sym s.holds ∙ q (suc k));
        }
    go (builds f r l e) =
        let q = quiet 1 (refusals c m i) rise (omega arith) f in
        record {
          given = λ n z. differ (sym (ap (λ (l : Lent). l.reply) e) ∙ z);
          gives = λ n t. t≢f (sym t.holds ∙ quiet_none (refusals c m i) q n);
          unchanged = λ n z. differ (sym (ap (λ (l : Lent). l.reply) e) ∙ z);
          accepted = λ z. e;
        }
