-- Numbers one behind the other, and instructions: what is accepted is an encoding, and every encoding is accepted. Assumes nothing.
use mathlib.Core.Path.{◌≡◌, refl, sym, ap, ◌∙◌, subst, subst₂}
use mathlib.Core.Logic.{◌↔◌}
use mathlib.Core.Bool.{Bool, true, false, cond}
use mathlib.Core.List.{List, [], ◌∷◌, ◌++◌, append_assoc}
use Prim.Native.Nat.{ℕ, zero, suc, ◌+◌, ◌^◌, ◌≤◌, ◌<◌}
use native.Mathlib.Nat.{add-zero}
use native.Mathlib.Omega.{arith}
use borrow.Author.Tests.{leb-true, le-leb}
use lib.Dec.{leb}
use lib.ListN.{length, get_or, drop, length-append}
use lib.Seq.{drop-drop, drop-append_seam}
use Rattle.instruction.specs.Instruction.{Instr}
use Rattle.codec.specs.declared.Number.{Number}
use Rattle.std.proofs.Common.{Option, Some, None}
use Rattle.codec.specs.Numbers.{groups, read, number_at, Begins}
use Rattle.codec.specs.Instructions.{Listing, listed, broken, onto, first, numbers_at, Reading, whole, bad, after, operands, instruction_at, all_groups, numbers, BeginAll, Encodes}
use Rattle.codec.proofs.Encoded.{number_read, behind-front}

-- where numbers are listed, the first was read, and the rest are listed behind it
onto-listed : (n : ℕ) (l : Listing) {ns : List ℕ} {next : ℕ} → onto n l ≡ listed ns next → (tail : List ℕ) × (l ≡ listed tail next) × (n ∷ tail ≡ ns)
unfolding onto
onto-listed n (listed ms k) e = (ms, cc, cc)
onto-listed n broken e = ([], cc, cc)

first-listed : (m : Option Number) (rest : ℕ → Listing) {ns : List ℕ} {next : ℕ} → first m rest ≡ listed ns next → (n : ℕ) × (mid : ℕ) × (tail : List ℕ) × (m ≡ read n mid) × (rest mid ≡ listed tail next) × (n ∷ tail ≡ ns)
unfolding first
first-listed (Some m) rest e = let o = onto-listed m.value (rest m.next) e in (m.value, m.next, o.0, refl, o.1, o.2)
first-listed None rest e = (0, 0, [], cc, cc, cc)

module _ (bytes : List ℕ) where
  begin_none : (at : ℕ) → BeginAll bytes at [] at
  unfolding all_groups
  begin_none at = record { small = λ k. omega arith; stands = refl; behind = sym (add-zero at) }

  begin_more : {at n mid : ℕ} {ns : List ℕ} {next : ℕ} → Begins bytes at n mid → BeginAll bytes mid ns next → BeginAll bytes at (n ∷ ns) next
  unfolding all_groups
  begin_more {at} {n} {mid} {ns} {next} b l =
      record {
        small = below;
        stands = b.stands ∙ ap (◌++◌ (groups n)) l.stands ∙ sym (append_assoc (groups n) (all_groups ns) (drop next bytes));
        behind = omega (arith, b.behind, l.behind, length-append (groups n) (all_groups ns));
      }
    where
      below : (k : ℕ) → get_or (n ∷ ns) k 0 < 2 ^ 64
      below zero = b.small
      below (suc k) = l.small k

  begin-first : {at n : ℕ} {ns : List ℕ} {next : ℕ} → BeginAll bytes at (n ∷ ns) next → Begins bytes at n (at + length (groups n)) × BeginAll bytes (at + length (groups n)) ns next
  unfolding all_groups
  begin-first {at} {n} {ns} {next} l =
      let e : drop at bytes ≡ groups n ++ (all_groups ns ++ drop next bytes) = l.stands ∙ append_assoc (groups n) (all_groups ns) (drop next bytes) in
      let f : drop (at + length (groups n)) bytes ≡ all_groups ns ++ drop next bytes =
      sym (drop-drop (length (groups n)) at bytes) ∙ ap (drop (length (groups n))) e ∙ drop-append_seam (groups n) (all_groups ns ++ drop next bytes) in (
        record { small = l.small 0; stands = e ∙ ap (◌++◌ (groups n)) (sym f); behind = refl },
        record { small = λ k. l.small (suc k); stands = f; behind = omega (arith, l.behind, length-append (groups n) (all_groups ns)) },
      )

  listed-begin : (k at : ℕ) (ns : List ℕ) (next : ℕ) → numbers_at k bytes at ≡ listed ns next → (length ns ≡ k) × BeginAll bytes at ns next
  unfolding numbers_at
  listed-begin zero at ns next e =
      let p : [] ≡ ns = cc in
      let q : at ≡ next = cc in
      (sym (ap length p), subst₂ (λ (l : List ℕ) (x : ℕ). BeginAll bytes at l x) p q (begin_none at))
  listed-begin (suc k) at ns next e =
      let f = first-listed (number_at bytes at) (numbers_at k bytes) e in
      let r = listed-begin k f.1 f.2 next f.4 in (
        sym (ap length f.5) ∙ ap suc r.0,
        subst (λ (l : List ℕ). BeginAll bytes at l next) f.5 (begin_more ((number_read bytes at f.0 f.1).0 f.3) r.1),
      )

  begin-listed : (k at : ℕ) (ns : List ℕ) (next : ℕ) → length ns ≡ k → BeginAll bytes at ns next → numbers_at k bytes at ≡ listed ns next
  unfolding numbers_at first onto all_groups
  begin-listed zero at [] next e b = ap (listed []) (sym (b.behind ∙ add-zero at))
  begin-listed zero at (n ∷ ns) next e b = absurd (omega arith)
  begin-listed (suc k) at [] next e b = absurd (omega arith)
  begin-listed (suc k) at (n ∷ ns) next e b =
      let f = begin-first b in
      rw ((number_read bytes at n (at + length (groups n))).1 f.0, begin-listed k (at + length (groups n)) ns next (omega arith) f.1)

  -- as many numbers as were asked for are listed exactly where their encoding stands
  pub numbers-listed : (k at : ℕ) (ns : List ℕ) (next : ℕ) → (numbers_at k bytes at ≡ listed ns next) ↔ ((length ns ≡ k) × BeginAll bytes at ns next)
  numbers-listed k at ns next = (listed-begin k at ns next, λ b. begin-listed k at ns next b.0 b.1)

after-whole : (m : Option Number) (rest : ℕ → ℕ → Reading) {i : Instr} {next : ℕ} → after m rest ≡ whole i next → (n : ℕ) × (mid : ℕ) × (m ≡ read n mid) × (rest n mid ≡ whole i next)
unfolding after
after-whole (Some m) rest e = (m.value, m.next, refl, e)
after-whole None rest e = (0, 0, cc, cc)

operands-whole : (op par count : ℕ) (l : Listing) {i : Instr} {next : ℕ} → operands op par count l ≡ whole i next → (ns : List ℕ) × (l ≡ listed ns next) × (record { op = op; par = par; count = count; operands = ns } ≡ i)
unfolding operands
operands-whole op par count (listed ns k) e = (ns, cc, cc)
operands-whole op par count broken e = ([], cc, cc)

within : (t : Bool) {r : Reading} {i : Instr} {next : ℕ} → cond t r bad ≡ whole i next → (t ≡ true) × (r ≡ whole i next)
within true e = (refl, e)
within false e = (cc, cc)

module _ (bytes : List ℕ) (at : ℕ) where
  -- the four stages, last to first
  from_operands : (i : Instr) (next op a par b count c : ℕ) → number_at bytes at ≡ read op a → number_at bytes a ≡ read par b → number_at bytes b ≡ read count c
      → count ≤ 257 → operands op par count (numbers_at count bytes c) ≡ whole i next → Encodes bytes at i next
  from_operands i next op a par b count c x y z m e =
      let o = operands-whole op par count (numbers_at count bytes c) e in
      let l = listed-begin bytes count c o.0 next o.1 in
      subst (λ (j : Instr). Encodes bytes at j next) o.2
      (record {
        begin =
            begin_more bytes ((number_read bytes at op a).0 x)
            (begin_more bytes ((number_read bytes a par b).0 y) (begin_more bytes ((number_read bytes b count c).0 z) l.1));
        counted = l.0;
        most = m;
      })

  from_count : (i : Instr) (next op a par b : ℕ) → number_at bytes at ≡ read op a → number_at bytes a ≡ read par b
      → after (number_at bytes b) (λ count c. cond (leb count 257) (operands op par count (numbers_at count bytes c)) bad) ≡ whole i next → Encodes bytes at i next
  from_count i next op a par b x y e =
      let z = after-whole (number_at bytes b) (λ count c. cond (leb count 257) (operands op par count (numbers_at count bytes c)) bad) e in
      let w = within (leb z.0 257) z.3 in
      from_operands i next op a par b z.0 z.1 x y z.2 (leb-true z.0 257 w.0) w.1

  read_encodes : (i : Instr) (next : ℕ) → instruction_at bytes at ≡ whole i next → Encodes bytes at i next
  unfolding instruction_at
  read_encodes i next e =
      let x = after-whole (number_at bytes at) _ e in
      let y = after-whole (number_at bytes x.1) _ x.3 in
      from_count i next x.0 x.1 y.0 y.1 x.2 y.2 y.3

  encodes_read : (i : Instr) (next : ℕ) → Encodes bytes at i next → instruction_at bytes at ≡ whole i next
  unfolding instruction_at after operands
  encodes_read i next b =
      let x = begin-first bytes b.begin in
      let y = begin-first bytes x.1 in
      let z = begin-first bytes y.1 in
      rw ((number_read bytes at _ _).1 x.0, (number_read bytes _ _ _).1 y.0, (number_read bytes _ _ _).1 z.0, le-leb i.count 257 b.most, begin-listed bytes i.count _ i.operands next b.counted z.1)

  -- an instruction is read exactly where its encoding stands
  pub instruction_read : (i : Instr) (next : ℕ) → (instruction_at bytes at ≡ whole i next) ↔ Encodes bytes at i next
  instruction_read i next = (read_encodes i next, encodes_read i next)

  -- and a bad one exactly where none does
  pub instruction_bad : (instruction_at bytes at ≡ bad) ↔ ((i : Instr) (next : ℕ) → Encodes bytes at i next → ⊥)
  instruction_bad = (
    (λ e i next b. let z : ◌≡◌ {A = ℕ} 0 1 = cc (encodes_read i next b) in omega arith),
    λ h. none (instruction_at bytes at) refl h,
  )
    where
      none : (r : Reading) → instruction_at bytes at ≡ r → ((i : Instr) (next : ℕ) → Encodes bytes at i next → ⊥) → instruction_at bytes at ≡ bad
      none (whole i next) e h = absurd (h i next (read_encodes i next e))
      none bad e h = e

-- decoding an encoded instruction gives it back, and the place behind it
pub instruction_back : (front rest : List ℕ) (i : Instr) → ((k : ℕ) → get_or (numbers i) k 0 < 2 ^ 64) → length i.operands ≡ i.count → i.count ≤ 257
    → instruction_at (front ++ (all_groups (numbers i) ++ rest)) (length front) ≡ whole i (length front + length (all_groups (numbers i)))
instruction_back front rest i small counted most =
    encodes_read (front ++ (all_groups (numbers i) ++ rest)) (length front) i (length front + length (all_groups (numbers i)))
    (record {
      begin = record { small = small; stands = behind-front front (all_groups (numbers i)) rest; behind = refl };
      counted = counted;
      most = most;
    })
