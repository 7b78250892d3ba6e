-- The first test that holds is given: one law for each number, from what the tests answer one after the other.
use mathlib.Core.Path.{◌≡◌, sym, ap, ap₂, ◌∙◌}
use mathlib.Core.Bool.{Bool, true, false, not, ◌&&◌, ◌||◌}
use Prim.Native.Nat.{ℕ}
use mathlib.Core.List.{List}
use lib.ListN.{drop}
use lib.Dec.{eqb}
use borrow.Author.Tests.{not-true, not-false}
use Rattle.arena.specs.Nodes.{Nodes}
use Rattle.instruction.specs.Instruction.{Instr}
use Rattle.table.specs.Table.{Shape, known, row}
use Rattle.table.specs.Call.{count_ok, too_many, operands_ok, first_of, tests, refusal}
use Rattle.table.specs.Forms.{Suited, listed}

module _ (a : Nodes) (i : Instr) {b1 : Bool} (e1 : b1 ≡ known i.op) where
  pub unknown : not b1 ≡ true → 2 ≡ refusal a i
  unfolding refusal
  unknown h = rw (sym e1 ∙ not-true b1 h, refusal)

  module _ (h1 : not b1 ≡ false) where
    pub known-op : known i.op ≡ true
    known-op = sym e1 ∙ not-false b1 h1

    module _ {s : Shape} (es : s ≡ (row i.op).shape) {b2 t2 : Bool} (e2 : b2 ≡ count_ok s i.count) (t2e : t2 ≡ (row i.op).takes) where
      -- in the table's words
      two : (not b2 || (not t2 && not (eqb i.par 0))) ≡ (not (count_ok (row i.op).shape i.count) || (not (row i.op).takes && not (eqb i.par 0)))
      two = ap₂ (λ (p q : Bool). not p || (not q && not (eqb i.par 0))) (e2 ∙ ap (λ (s : Shape). count_ok s i.count) es) t2e

      pub at_2 : (not b2 || (not t2 && not (eqb i.par 0))) ≡ true → 2 ≡ refusal a i
      unfolding refusal tests first_of
      at_2 h = rw (known-op, refusal, sym two ∙ h)

      module _ (h2 : (not b2 || (not t2 && not (eqb i.par 0))) ≡ false) {b3 : Bool} (e3 : b3 ≡ too_many s i.count) where
        three : b3 ≡ too_many (row i.op).shape i.count
        three = e3 ∙ ap (λ (s : Shape). too_many s i.count) es

        pub at_3 : b3 ≡ true → 3 ≡ refusal a i
        unfolding refusal tests first_of
        at_3 h = rw (known-op, refusal, sym two ∙ h2, sym three ∙ h)

        module _ (h3 : b3 ≡ false) {b4 : Bool} (e4 : b4 ≡ operands_ok a s i.operands) where
          four : b4 ≡ operands_ok a (row i.op).shape i.operands
          four = e4 ∙ ap (λ (s : Shape). operands_ok a s i.operands) es

          pub at_4 : not b4 ≡ true → 4 ≡ refusal a i
          unfolding refusal tests first_of
          at_4 h = rw (known-op, refusal, sym two ∙ h2, sym three ∙ h3, sym four ∙ not-true b4 h)

          module _ (h4 : not b4 ≡ false) where
            pub suited : Suited a i.op i.operands
            suited = sym four ∙ not-false b4 h4

            -- only tests 5 to 8 are left
            pub past_4 : first_of (drop 3 (tests a (listed i.op i.par i.operands) (row i.op))) ≡ refusal a i
            unfolding refusal tests first_of
            past_4 = rw (known-op, refusal, sym two ∙ h2, sym three ∙ h3, suited)

-- ---- tests 5 to 8, of an operation on operands that passed those before

module _ (a : Nodes) (o p : ℕ) (xs : List ℕ) where
  module _ {b5 : Bool} (e5 : b5 ≡ (row o).five a xs) where
    pub at_5 : b5 ≡ true → 5 ≡ first_of (drop 3 (tests a (listed o p xs) (row o)))
    unfolding tests first_of
    at_5 h = rw (sym e5 ∙ h)

    module _ (h5 : b5 ≡ false) {b6 : Bool} (e6 : b6 ≡ (row o).six a p xs) where
      pub at_6 : b6 ≡ true → 6 ≡ first_of (drop 3 (tests a (listed o p xs) (row o)))
      unfolding tests first_of
      at_6 h = rw (sym e5 ∙ h5, sym e6 ∙ h)

      module _ (h6 : b6 ≡ false) {b7 : Bool} (e7 : b7 ≡ (row o).seven a p xs) where
        pub at_7 : b7 ≡ true → 7 ≡ first_of (drop 3 (tests a (listed o p xs) (row o)))
        unfolding tests first_of
        at_7 h = rw (sym e5 ∙ h5, sym e6 ∙ h6, sym e7 ∙ h)

        module _ (h7 : b7 ≡ false) {b8 : Bool} (e8 : b8 ≡ (row o).eight a p xs) where
          pub at_8 : b8 ≡ true → 8 ≡ first_of (drop 3 (tests a (listed o p xs) (row o)))
          unfolding tests first_of
          at_8 h = rw (sym e5 ∙ h5, sym e6 ∙ h6, sym e7 ∙ h7, sym e8 ∙ h)

          pub accepted : b8 ≡ false → 0 ≡ first_of (drop 3 (tests a (listed o p xs) (row o)))
          unfolding tests first_of
          accepted h = rw (sym e5 ∙ h5, sym e6 ∙ h6, sym e7 ∙ h7, sym e8 ∙ h)
