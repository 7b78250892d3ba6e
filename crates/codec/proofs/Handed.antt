-- What a caller of the decoder learns: the instruction that it is handed, and that the place moves on within the bytes. Assumes nothing.
use mathlib.Core.Path.{◌≡◌, refl, sym, ap, ap₂, ◌∙◌}
use mathlib.Core.List.{List, ◌∷◌, ◌++◌}
use Prim.Native.Nat.{ℕ, ◌+◌, ◌≤◌, ◌<◌}
use native.Mathlib.Omega.{arith}
use lib.ListN.{length, drop, length-append, length-drop}
use Rattle.std.proofs.Common.{Some, None}
use Rattle.std.proofs.lemmas.Option.{same_Some}
use Rattle.instruction.specs.Instruction.{Instr, instr_of}
use Rattle.instruction.proofs.Views.{instr_of-held}
use Rattle.codec.specs.declared.Decoded.{Decoded}
use Rattle.codec.specs.Numbers.{groups, read, number_at}
use Rattle.codec.specs.Instructions.{Reading, whole, bad, instruction_at, decoded_of, all_groups, numbers}
use Rattle.codec.proofs.Groups.{groups_some}
use Rattle.codec.proofs.Encoded.{number_read}
use Rattle.codec.proofs.Listed.{instruction_read}

-- what stands at a place lies within the bytes
within : (bytes xs : List ℕ) (at next : ℕ) → 0 < length xs → drop at bytes ≡ xs ++ drop next bytes → next ≡ at + length xs → (at < next) × (next ≤ length bytes)
within bytes xs at next s e b =
    let l = ap length e in
    (omega arith, omega (arith, length-append xs (drop next bytes), length-drop at bytes, length-drop next bytes))

pub number-within : (bytes : List ℕ) (at n next : ℕ) → number_at bytes at ≡ read n next → (at < next) × (next ≤ length bytes)
number-within bytes at n next e =
    let b = (number_read bytes at n next).0 e in
    within bytes (groups n) at next (groups_some n) b.stands b.behind

some : (n : ℕ) (ns : List ℕ) → 0 < length (all_groups (n ∷ ns))
unfolding all_groups
some n ns = omega (arith, length-append (groups n) (all_groups ns), groups_some n)

pub instruction_within : (bytes : List ℕ) (at : ℕ) (i : Instr) (next : ℕ) → instruction_at bytes at ≡ whole i next → (at < next) × (next ≤ length bytes)
instruction_within bytes at i next e =
    let b = (instruction_read bytes at i next).0 e in
    within bytes (all_groups (numbers i)) at next (some i.op (i.par ∷ i.count ∷ i.operands)) b.begin.stands b.begin.behind

-- what is handed over, where an instruction was read and where none
module _ (bytes : List ℕ) (at : ℕ) where
  pub handed_whole : (r : Decoded) → Some r ≡ decoded_of (instruction_at bytes at) → instruction_at bytes at ≡ whole (instr_of r.instruction) r.next
  handed_whole r made = go (instruction_at bytes at) refl made
    where
      go : (l : Reading) → instruction_at bytes at ≡ l → Some r ≡ decoded_of l → l ≡ whole (instr_of r.instruction) r.next
      go (whole i next) q e =
          let d = same_Some _ _ e in
          ap₂ whole
          (sym (ap (λ (d : Decoded). instr_of d.instruction) d ∙ instr_of-held i ((instruction_read bytes at i next).0 q).counted))
          (sym (ap (λ (d : Decoded). d.next) d))
      go bad q e = cc

  pub handed_bad : None ≡ decoded_of (instruction_at bytes at) → instruction_at bytes at ≡ bad
  handed_bad made = go (instruction_at bytes at) made
    where
      go : (l : Reading) → None ≡ decoded_of l → l ≡ bad
      go (whole i next) e = cc
      go bad e = refl
