-- What a row of the table promises of an accepted instruction, and the rows of one shape from their operations' laws. Assumes nothing.
use mathlib.Core.Path.{◌≡◌, refl, sym, ◌∙◌}
use Prim.Native.Nat.{ℕ, zero, suc, ◌<◌}
use native.Mathlib.Omega.{arith}
use mathlib.Core.Bool.{Bool, true, false}
use mathlib.Core.List.{List, [], ◌∷◌}
use lib.ListN.{length, get_or, drop}
use Rattle.arena.specs.Lists.{all, odds}
use Rattle.arena.specs.Nodes.{Nodes, Out}
use Rattle.arena.specs.Walks.{is_lit}
use Rattle.arena.specs.WellFormed.{is_type}
use Rattle.arena.proofs.Bools.{t≢f, and_l, and_r}
use Rattle.arena.proofs.Ext.{Ext}
use Rattle.arena.proofs.Chain.{WF}
use Rattle.arena.proofs.Known.{Lit}
use Rattle.factory.proofs.Law.{Law, reads}
use Rattle.instruction.specs.Instruction.{Instr}
use Rattle.table.specs.Table.{Sort, ty, tm, fixed, pairs, run, Row, #0, #1, #2, rest, one_term, two_terms}
use Rattle.table.specs.Senses.{Sense}
use Rattle.table.specs.Call.{sort_ok, sorts_ok, operands_ok}
use Rattle.table.specs.Promises.{terms_by, terms}
use Rattle.table.proofs.Fits.{Passed}

-- ---- what a row promises

-- a type found or added
pub record TypeOut (a : Nodes) (o : Out) : Type 0 where
  pub ext : Ext a o.arena
  pub wf : WF o.arena
  pub istype : is_type o.arena o.at ≡ true

pub record TypeRow (r : Row) : Type 0 where
  pub law : (a : Nodes) → WF a → (i : Instr) → length i.operands ≡ i.count → Passed a i r → TypeOut a (r.build a i.par i.operands)

-- the law of an accepted instruction, which gives a literal where L holds
abbrev pub Lawful : Row → Sense → (Nodes → List ℕ → Type 0) → Type 0
Lawful r s L = (a : Nodes) → WF a → (i : Instr) → length i.operands ≡ i.count → Passed a i r
    → Law a (L a i.operands) (s.type a i.par i.operands) (λ I. s.means I a i.par i.operands) (r.build a i.par i.operands)

pub record TermRow (r : Row) (s : Sense) : Type 0 where
  pub law : Lawful r s (λ a xs. (all (is_lit a) (terms r.shape xs) ≡ true) × (s.opens a xs ≡ false))

-- ---- the operands that are terms

module _ (f : ℕ → Bool) (a : Nodes) where
  term-at : (ss : List Sort) (xs : List ℕ) → sorts_ok a ss xs ≡ true → all f (terms_by ss xs) ≡ true → (i : ℕ) → i < length ss → get_or ss i ty ≡ tm → f (get_or xs i 0) ≡ true
  unfolding sorts_ok terms_by all
  term-at [] xs s l i h e = absurd (omega arith)
  term-at (k ∷ ss) [] s l i h e = t≢f (sym s)
  term-at (tm ∷ ss) (x ∷ xs) s l zero h e = and_l (f x) _ l
  term-at (tm ∷ ss) (x ∷ xs) s l (suc i) h e = term-at ss xs (and_r (sort_ok a tm x) _ s) (and_r (f x) _ l) i (omega arith) e
  term-at (ty ∷ ss) (x ∷ xs) s l zero h e = let z : ◌≡◌ {A = ℕ} 0 1 = cc in absurd (omega arith)
  term-at (ty ∷ ss) (x ∷ xs) s l (suc i) h e = term-at ss xs (and_r (sort_ok a ty x) _ s) l i (omega arith) e

  terms-rest : (ss : List Sort) (xs : List ℕ) → all f (terms_by ss xs) ≡ true → all f (drop (length ss) xs) ≡ true
  unfolding terms_by all
  terms-rest [] xs l = l
  terms-rest (k ∷ ss) [] l = refl
  terms-rest (tm ∷ ss) (x ∷ xs) l = terms-rest ss xs (and_r (f x) _ l)
  terms-rest (ty ∷ ss) (x ∷ xs) l = terms-rest ss xs l

-- ---- rows by shape, where literal operands give a literal

-- a literal among operands of fixed sorts
lit_at : {r : Row} {ss : List Sort} → r.shape ≡ fixed ss → (a : Nodes) (i : Instr) → Passed a i r → all (is_lit a) (terms r.shape i.operands) ≡ true → (j : ℕ) → j < length ss → get_or ss j ty ≡ tm
    → Lit a (get_or i.operands j 0)
unfolding operands_ok terms
lit_at {r} {ss} e a i P l = term-at (is_lit a) a ss i.operands (rw e at P.sorts) (rw e at l)

module _ {r : Row} {s : Sense} where
  -- where literals are not spoken of
  pub on_any : Lawful r s (λ a xs. Unit {0}) → TermRow r s
  on_any g = record { law = λ a w i h P. reads (g a w i h P) (λ l. tt) (λ I G. refl) }

  -- nor is anything a literal
  pub on_open : ((a : Nodes) (xs : List ℕ) → s.opens a xs ≡ true) → Lawful r s (λ a xs. ⊥) → TermRow r s
  on_open e g = record { law = λ a w i h P. reads (g a w i h P) (λ l. t≢f (sym (e a i.operands) ∙ l.1)) (λ I G. refl) }

  -- where some literals may give no literal
  pub on_get : r.shape ≡ one_term → Lawful r s (λ a xs. Lit a (#0 xs) × (s.opens a xs ≡ false)) → TermRow r s
  on_get e g = record { law = λ a w i h P. reads (g a w i h P) (λ l. (lit_at e a i P l.0 0 (omega arith) refl, l.1)) (λ I G. refl) }

  pub on_one : r.shape ≡ one_term → Lawful r s (λ a xs. Lit a (#0 xs)) → TermRow r s
  on_one e g = on_get e (λ a w i h P. reads (g a w i h P) (λ l. l.0) (λ I G. refl))

  pub on_two : r.shape ≡ two_terms → Lawful r s (λ a xs. Lit a (#0 xs) × Lit a (#1 xs)) → TermRow r s
  on_two e g = record { law = λ a w i h P. reads (g a w i h P) (λ l. let f = lit_at e a i P l.0 in (f 0 (omega arith) refl, f 1 (omega arith) refl)) (λ I G. refl) }

  pub on_three : r.shape ≡ fixed (tm ∷ tm ∷ tm ∷ []) → Lawful r s (λ a xs. Lit a (#0 xs) × Lit a (#1 xs) × Lit a (#2 xs)) → TermRow r s
  on_three e g = record {
    law = λ a w i h P. reads (g a w i h P) (λ l. let f = lit_at e a i P l.0 in (f 0 (omega arith) refl, f 1 (omega arith) refl, f 2 (omega arith) refl)) (λ I G. refl);
  }

  pub on_pairs : r.shape ≡ pairs tm → Lawful r s (λ a xs. all (is_lit a) (odds xs) ≡ true) → TermRow r s
  unfolding terms
  on_pairs e g = record { law = λ a w i h P. reads (g a w i h P) (λ l. rw e at l.0) (λ I G. refl) }

  pub on_run : {ss : List Sort} → r.shape ≡ run ss → Lawful r s (λ a xs. all (is_lit a) (drop (length ss) xs) ≡ true) → TermRow r s
  unfolding terms
  on_run {ss} e g = record { law = λ a w i h P. reads (g a w i h P) (λ l. terms-rest (is_lit a) a ss i.operands (rw e at l.0)) (λ I G. refl) }

  pub on_term-run : r.shape ≡ run (tm ∷ []) → Lawful r s (λ a xs. (all (is_lit a) (rest xs) ≡ true) × Lit a (#0 xs)) → TermRow r s
  unfolding operands_ok terms
  on_term-run e g = record {
    law = λ a w i h P. reads (g a w i h P) (λ l. let q = rw e at l.0 in
        (terms-rest (is_lit a) a (tm ∷ []) i.operands q, term-at (is_lit a) a (tm ∷ []) i.operands (rw e at P.sorts) q 0 (omega arith) refl)) (λ I G. refl);
  }
