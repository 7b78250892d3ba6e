use mathlib.Core.Path.{sym, ap₂, ◌∙◌}
use Prim.Native.Nat.{ℕ}
use native.Mathlib.Omega.{arith}
use mathlib.Core.Bool.{Bool, not, ◌||◌}
use lib.Dec.{eqb}
use Rattle.table.specs.Table.{table, row_of, row}
use Rattle.table.proofs.Numbers.{five_attribute}
use Rattle.table.proofs.Suits.{compiled_terms, attribute_terms, record_terms}
use Rattle.refusals.proofs.Suited.wrong_in_compiled.Goals as goal

pub any_misfits-requires : goal.any_misfits-requires
any_misfits-requires c =
    (compiled_terms _ c.requires.0 (omega arith) c.args.self.now.suited).each

pub returns-then-self-eq70 : goal.returns-then-self-eq70
unfolding row row_of table
returns-then-self-eq70 c = rw c.if-self-eq70.true c.any_misfits.ensures

pub first_misfits-requires : goal.first_misfits-requires
first_misfits-requires c =
    compiled_terms _ c.requires.0 (omega arith) c.args.self.now.suited

pub first_width-requires : goal.first_width-requires
first_width-requires c =
    compiled_terms _ c.requires.0 (omega arith) c.args.self.now.suited

pub returns-then-self-eq71 : goal.returns-then-self-eq71
unfolding row row_of table
returns-then-self-eq71 c = rw c.if-self-eq71.true (ap₂ (λ (p : Bool) (w : ℕ). p || not (eqb w 64)) c.first_misfits.ensures c.first_width.ensures)

pub first_misfits-requires-then-self-eq72 : goal.first_misfits-requires-then-self-eq72
first_misfits-requires-then-self-eq72 c =
    compiled_terms _ c.requires.0 (omega arith) c.args.self.now.suited

pub returns-then-self-eq72 : goal.returns-then-self-eq72
unfolding row row_of table
returns-then-self-eq72 c = rw c.if-self-eq72.true c.first_misfits-then-self-eq72.ensures

pub held_misfits-requires : goal.held_misfits-requires
held_misfits-requires c =
    record_terms _ _ _ c.if-self-eq73.true c.args.self.now.suited

pub returns-then-self-eq73 : goal.returns-then-self-eq73
unfolding row row_of table
returns-then-self-eq73 c = rw c.if-self-eq73.true c.held_misfits.ensures

pub first_misfits-requires-2 : goal.first_misfits-requires-2
first_misfits-requires-2 c =
    attribute_terms _ (omega arith) c.requires.1 c.args.self.now.suited

pub returns : goal.returns
returns c = c.first_misfits-2.ensures ∙ sym (five_attribute _ _ _ (omega arith) c.requires.1)
