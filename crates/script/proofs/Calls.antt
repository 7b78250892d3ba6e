-- The answers to instructions are the lines of calls, each on the arena left before it; a bad one behind them is refused. Assumes nothing.
use mathlib.Core.Path.{◌≡◌, refl, sym, ap, ◌∙◌, subst}
use mathlib.Core.Logic.{◌⊎◌, inl, inr, ⊎_elim}
use mathlib.Core.List.{List, [], ◌∷◌, ◌++◌, append_assoc, append-nil}
use Prim.Native.Nat.{ℕ, zero, suc, ◌+◌, ◌≤◌, ◌<◌}
use native.Mathlib.Omega.{arith}
use borrow.Author.Tests.{le-leb}
use lib.ListN.{length, drop, length-append, length-drop, drop_of_length-le}
use Rattle.arena.specs.Nodes.{mark, fresh}
use Rattle.arena.specs.Cells.{padded}
use Rattle.instruction.specs.Instruction.{Instr}
use Rattle.codec.specs.Instructions.{Reading, whole, bad, instruction_at, all_groups, numbers, Encodes}
use Rattle.answers.specs.Lines.{refused_line}
use Rattle.std.proofs.lemmas.Bool.{cases_lt}
use Rattle.codec.proofs.Listed.{instruction_read, instruction_back}
use Rattle.table.specs.Call.{call_on}
use Rattle.table.specs.Answers.{mark_after}
use Rattle.answers.specs.Replies.{line_of}
use Rattle.script.specs.Script.{longest, lent, state, Step, step_on, ran, answers}
use Rattle.script.specs.Calls.{AllSayable, said, calls, last_line}
use Rattle.script.proofs.Short.{three_bytes}
use Rattle.script.proofs.Steps.{ran_more, ran_end}

module _ (bytes : List ℕ) where
  -- the text of a run whose first instruction is known
  ran-whole : (c : List ℕ) (m at : ℕ) (i : Instr) (behind : ℕ) → instruction_at bytes at ≡ whole i behind
      → (ran bytes (state c m at)).text ≡ line_of (call_on c m i).reply ++ (ran bytes (state (call_on c m i).cells (mark_after m (call_on c m i).reply) behind)).text
  unfolding step_on
  ran-whole c m at i behind e =
      let b = three_bytes bytes at i behind e in
      let x = ran_more bytes (state c m at) (omega arith) in
      ap (λ (t : Step). t.text) x ∙ ap (λ (l : Reading). let t = step_on (length bytes) (state c m at) l in t.text ++ (ran bytes t.next).text) e

  ran-bad : (c : List ℕ) (m at : ℕ) → at < length bytes → instruction_at bytes at ≡ bad → (ran bytes (state c m at)).text ≡ refused_line 10
  unfolding step_on
  ran-bad c m at h e =
      ap (λ (t : Step). t.text) (ran_more bytes (state c m at) h)
      ∙ ap (λ (l : Reading). let t = step_on (length bytes) (state c m at) l in t.text ++ (ran bytes t.next).text) e
      ∙ ap (λ (t : Step). refused_line 10 ++ t.text) (ran_end bytes (state c m (length bytes)) (omega arith))
      ∙ append-nil (refused_line 10)

  -- `rest` is what the bytes behind the instructions give in any arena
  module _ (end : ℕ) (rest : List ℕ) (last : (c : List ℕ) (m : ℕ) → (ran bytes (state c m end)).text ≡ rest) where
    ran-calls : (is : List Instr) → AllSayable is → (front tail : List ℕ) → bytes ≡ front ++ (said is ++ tail) → end ≡ length front + length (said is) → (c : List ℕ) (m : ℕ)
        → (ran bytes (state c m (length front))).text ≡ calls c m is ++ rest
    unfolding AllSayable said calls
    ran-calls [] h front tail b e c m =
        let z : length front ≡ end = omega arith in
        ap (λ (k : ℕ). (ran bytes (state c m k)).text) z ∙ last c m
    ran-calls (i ∷ is) h front tail b e c m =
        let g = all_groups (numbers i) in
        let l = call_on c m i in
        let m' = mark_after m l.reply in
        let s = h.0 in
        let a : bytes ≡ front ++ (g ++ (said is ++ tail)) = b ∙ ap (λ (x : List ℕ). front ++ x) (append_assoc g (said is) tail) in
        let w : instruction_at bytes (length front) ≡ whole i (length front + length g) = subst (λ (x : List ℕ). instruction_at x (length front) ≡ whole i (length front + length g)) (sym a) (instruction_back front (said is ++ tail) i s.small s.counted s.most) in
        let n = length-append front g in
        let k = length-append g (said is) in
        ran-whole c m (length front) i (length front + length g) w
        ∙ ap (λ (x : List ℕ). line_of l.reply ++ x)
        (ap (λ (k : ℕ). (ran bytes (state l.cells m' k)).text) (sym n)
        ∙ ran-calls is h.1 (front ++ g) tail (a ∙ sym (append_assoc front g (said is ++ tail))) (omega arith) l.cells m')
        ∙ sym (append_assoc (line_of l.reply) (calls l.cells m' is) rest)

module _ (is : List Instr) (h : AllSayable is) (tail : List ℕ) (short : length (said is ++ tail) ≤ longest) where
  from_start : (rest : List ℕ) → ((c : List ℕ) (m : ℕ) → (ran (said is ++ tail) (state c m (length (said is)))).text ≡ rest) → answers (said is ++ tail) ≡ calls (padded lent fresh) (mark fresh) is ++ rest
  unfolding answers
  from_start rest last =
      rw (le-leb (length (said is ++ tail)) longest short)
      (ran-calls (said is ++ tail) (length (said is)) rest last is h [] tail refl (omega arith) (padded lent fresh) (mark fresh))

  -- behind the instructions nothing that can be read
  pub broken_script : 0 < length tail → instruction_at (said is ++ tail) (length (said is)) ≡ bad → answers (said is ++ tail) ≡ calls (padded lent fresh) (mark fresh) is ++ refused_line 10
  broken_script l e =
      from_start (refused_line 10) (λ c m. ran-bad (said is ++ tail) c m (length (said is)) (omega (arith, length-append (said is) tail)) e)

-- and nothing at all
pub whole_script : (is : List Instr) → AllSayable is → length (said is) ≤ longest → answers (said is) ≡ calls (padded lent fresh) (mark fresh) is
whole_script is h short =
    let n = append-nil (said is) in
    ap answers (sym n)
    ∙ from_start is h [] (rw n short) [] (λ c m. ap (λ (t : Step). t.text) (ran_end (said is ++ []) (state c m (length (said is))) (let x = ap length n in omega arith)))
    ∙ append-nil (calls (padded lent fresh) (mark fresh) is)

-- ---- every script is instructions, and behind them nothing or nothing that can be read

record Split (bytes : List ℕ) (at : ℕ) : Type 0 where
  is : List Instr
  tail : List ℕ
  sayable : AllSayable is
  stands : drop at bytes ≡ said is ++ tail
  ends : (tail ≡ []) ⊎ ((0 < length tail) × (instruction_at bytes (at + length (said is)) ≡ bad))

split_whole : {bytes : List ℕ} {at : ℕ} {i : Instr} {next : ℕ} → Encodes bytes at i next → Split bytes next → Split bytes at
unfolding AllSayable said
split_whole {bytes} {at} {i} {next} e r =
    let g = all_groups (numbers i) in
    let n : next + length (said r.is) ≡ at + length (g ++ said r.is) = omega (arith, e.begin.behind, length-append g (said r.is)) in
    record {
      is = i ∷ r.is;
      tail = r.tail;
      sayable = (record { small = e.begin.small; counted = e.counted; most = e.most }, r.sayable);
      stands = e.begin.stands ∙ ap (λ (x : List ℕ). g ++ x) r.stands ∙ sym (append_assoc g (said r.is) r.tail);
      ends = subst (λ (k : ℕ). (r.tail ≡ []) ⊎ ((0 < length r.tail) × (instruction_at bytes k ≡ bad))) n r.ends;
    }

split_none : (bytes : List ℕ) (at : ℕ) → ((drop at bytes ≡ []) ⊎ ((0 < length (drop at bytes)) × (instruction_at bytes at ≡ bad))) → Split bytes at
unfolding AllSayable said
split_none bytes at e =
    let n : at ≡ at + 0 = omega arith in
    record {
      is = [];
      tail = drop at bytes;
      sayable = tt;
      stands = refl;
      ends = subst (λ (k : ℕ). (drop at bytes ≡ []) ⊎ ((0 < length (drop at bytes)) × (instruction_at bytes k ≡ bad))) n e;
    }

split_read : (bytes : List ℕ) (at : ℕ) → ((next : ℕ) → at < next → Split bytes next) → (l : Reading) → instruction_at bytes at ≡ l → Split bytes at
split_read bytes at more (whole i next) e =
    let b = three_bytes bytes at i next e in
    split_whole ((instruction_read bytes at i next).0 e) (more next (omega arith))
split_read bytes at more bad e =
    split_none bytes at (⊎_elim (λ h. inr (omega (arith, length-drop at bytes), e)) (λ h. inl (drop_of_length-le bytes h)) (cases_lt at (length bytes)))

split : (bytes : List ℕ) (k at : ℕ) → length bytes ≤ at + k → Split bytes at
split bytes zero at h = split_none bytes at (inl (drop_of_length-le bytes {i = at} (omega arith)))
split bytes (suc k) at h = split_read bytes at (λ next l. split bytes k next (omega arith)) (instruction_at bytes at) refl

-- so `calls` says every output
pub record Told (bytes : List ℕ) : Type 0 where
  pub is : List Instr
  pub tail : List ℕ
  pub sayable : AllSayable is
  pub stands : bytes ≡ said is ++ tail
  pub told : answers bytes ≡ calls (padded lent fresh) (mark fresh) is ++ last_line tail

pub every_script : (bytes : List ℕ) → length bytes ≤ longest → Told bytes
unfolding last_line
every_script bytes h =
    let s = split bytes (length bytes) 0 (omega arith) in
    record { is = s.is; tail = s.tail; sayable = s.sayable; stands = s.stands; told = ap answers s.stands ∙ go s.is s.sayable s.tail (subst (λ (x : List ℕ). length x ≤ longest) s.stands h) (ends s) }
  where
    ends : (s : Split bytes 0) → (s.tail ≡ []) ⊎ ((0 < length s.tail) × (instruction_at (said s.is ++ s.tail) (length (said s.is)) ≡ bad))
    ends s =
        let z : 0 + length (said s.is) ≡ length (said s.is) = omega arith in
        ⊎_elim inl (λ e. inr (e.0, subst (λ (x : List ℕ). instruction_at x (length (said s.is)) ≡ bad) s.stands (subst (λ (k : ℕ). instruction_at bytes k ≡ bad) z e.1))) s.ends

    go : (is : List Instr) → AllSayable is → (tail : List ℕ) → length (said is ++ tail) ≤ longest → (tail ≡ []) ⊎ ((0 < length tail) × (instruction_at (said is ++ tail) (length (said is)) ≡ bad))
        → answers (said is ++ tail) ≡ calls (padded lent fresh) (mark fresh) is ++ last_line tail
    go is w [] l e = rw append-nil (rw append-nil (whole_script is w (rw append-nil at l)))
    go is w (b ∷ bs) l e = ⊎_elim (λ x. absurd (omega (arith, ap length x))) (λ x. broken_script is w (b ∷ bs) l x.0 x.1) e
