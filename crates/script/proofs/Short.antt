-- How many bytes an instruction has at least, and a line at most. Assumes nothing.
use mathlib.Core.List.{List, ◌∷◌, ◌++◌}
use mathlib.Core.Path.{◌≡◌, ap}
use Prim.Native.Nat.{ℕ, suc, ◌+◌, ◌^◌, ◌≤◌, ◌<◌}
use native.Mathlib.Omega.{arith}
use lib.ListN.{length, drop, length-append, length-drop}
use Rattle.instruction.specs.Instruction.{Instr}
use Rattle.codec.specs.Numbers.{groups}
use Rattle.codec.specs.Instructions.{whole, instruction_at, all_groups, numbers}
use Rattle.answers.specs.Lines.{decimal, field, ok, refused, space, newline, ok_line, refused_line}
use Rattle.codec.proofs.Digits.{digits-most}
use Rattle.codec.proofs.Groups.{groups_some}
use Rattle.answers.proofs.Turns.{length-decimal}
use Rattle.codec.proofs.Listed.{instruction_read}
use Rattle.table.specs.Call.{Reply, ok as oks, refused as refuses}
use Rattle.table.proofs.Kept.{Small}
use Rattle.answers.specs.Replies.{line_of}
use Rattle.script.specs.Script.{lent}

some_more : (n : ℕ) (ns : List ℕ) → length (all_groups ns) < length (all_groups (n ∷ ns))
unfolding all_groups
some_more n ns = omega (arith, length-append (groups n) (all_groups ns), groups_some n)

-- operation, parameter and count are a byte or more each
pub three_bytes : (bytes : List ℕ) (at : ℕ) (i : Instr) (next : ℕ) → instruction_at bytes at ≡ whole i next → (at + 3 ≤ next) × (next ≤ length bytes)
three_bytes bytes at i next e =
    let b = ((instruction_read bytes at i next).0 e).begin in
    let xs = all_groups (numbers i) in
    let x = some_more i.op (i.par ∷ i.count ∷ i.operands) in
    let y = some_more i.par (i.count ∷ i.operands) in
    let z = some_more i.count i.operands in
    let h = b.behind in
    (omega arith, omega (arith, ap length b.stands, length-append xs (drop next bytes), length-drop at bytes, length-drop next bytes))

-- a number below ten has one digit, one below ten thousand at most four
field-short : (k : ℕ) (bytes : List ℕ) (n : ℕ) → n < 10 ^ suc k → length (field bytes n) ≤ length bytes + suc k
unfolding field
field-short k bytes n h =
    omega (arith, length-append bytes (decimal n), length-decimal n, digits-most 10 (omega arith) k n h)

pub refused-short : (n : ℕ) → n ≤ 9 → length (refused_line n) ≤ 10
unfolding refused_line
refused-short n h = omega (arith, length-append (field refused n) newline, field-short 0 refused n (omega arith))

pub ok-short : (p m : ℕ) → p ≤ lent → m ≤ lent → length (ok_line p m) ≤ 13
unfolding ok_line
ok-short p m hp hm =
    let f = field-short 3 ok p (omega arith) in
    let g = field-short 3 space m (omega arith) in
    let e = length-append (field ok p) (field space m) in
    omega (arith, length-append (field ok p ++ field space m) newline)

-- the line of a reply of an arena of 8,192 cells
pub line_short : (r : Reply) → Small lent r → length (line_of r) ≤ 13
unfolding line_of
line_short (oks p m) h = ok-short p m h.0 h.1
line_short (refuses n) h = let x = refused-short n h in omega arith
