-- What a call on an arena leaves is an arena, at the mark that its answer says. Assumes nothing.
use mathlib.Core.Path.{◌≡◌, sym, subst, ◌∙◌}
use mathlib.Core.List.{List}
use Prim.Native.Nat.{ℕ, ◌≤◌}
use native.Mathlib.Omega.{arith}
use lib.ListN.{length}
use lib.Seq.{length-take-le}
use Rattle.arena.specs.WellFormed.{IsArena}
use Rattle.instruction.specs.Instruction.{instr_of}
use Rattle.instruction.specs.declared.Instruction.{Instruction}
use Rattle.table.specs.Call.{Reply, lent}
use Rattle.table.specs.Answers.{Answer, Answered, mark_after, reply_of}
use Rattle.table.specs.Promises.{After}
use Rattle.table.proofs.Kept.{kept}

-- the operands of a struct are as many as its count says, where its array has so many
counted : (i : Instruction) → length i.operands ≡ 257 → i.count ≤ 257 → length (instr_of i).operands ≡ i.count
counted i l h = length-take-le i.count i.operands (omega arith)

module _ {c : List ℕ} {m : ℕ} (i : Instruction) (r : Answer) {c' : List ℕ} {y : Reply} {n : ℕ} where
  pub left-arena : IsArena c m → length i.operands ≡ 257 → Answered c m (instr_of i) r c' → y ≡ reply_of r → n ≡ mark_after m y → IsArena c' n
  left-arena A l e s q =
      let k = subst (After c m) (λ j. lent (sym (s ∙ e.0) j) (sym e.1 j)) (kept c m (instr_of i) (counted i l) A) in
      subst (IsArena c') (sym q) k.arena
