-- A call on an arena: what is answered and what is left, from the refusal and what is built. Assumes nothing.
use mathlib.Core.Path.{◌≡◌, refl, sym, ap, ap₂, ◌∙◌, subst}
use Prim.Native.Nat.{ℕ, zero, suc, ◌-◌, min, ◌≤◌}
use native.Mathlib.Omega.{arith}
use mathlib.Core.Bool.{Bool, true, false}
use mathlib.Core.List.{List}
use lib.ListN.{length, take, replicate, length-append}
use lib.Seq.{take_all}
use lib.Dec.{leb}
use borrow.Author.Tests.{le-leb, leb-true, leb-false}
use Rattle.arena.specs.Nodes.{Nodes, mark, Out}
use Rattle.arena.specs.Cells.{cells, used, padded}
use Rattle.arena.specs.WellFormed.{formed, IsArena}
use Rattle.arena.specs.Fresh.{cleared}
use Rattle.arena.specs.Did.{Reply, built, full, Done}
use Rattle.arena.proofs.Formed.{arena-formed}
use Rattle.arena.proofs.Flat.{length-cells}
use Rattle.arena.proofs.Padded.{arena-cells}
use Rattle.arena.proofs.FreshCells.{did_clear}
use Rattle.arena.proofs.Steps.{reply-fits, then_cells, then_mark, then_at}
use Rattle.instruction.specs.Instruction.{Instr}
use Rattle.table.specs.Forms.{instr, Passes, Held}
use Rattle.table.proofs.Kept.{few}
use Rattle.std.specs.Prelude.{Err}
use Rattle.table.specs.Refusals.{number_of}
use Rattle.table.specs.Answers.{reply_of}
use Rattle.table.specs.declared.Refusal.{Refusal}
use Rattle.table.specs.declared.Refusal.TheVariants.{NotAnArena, NotAnInstruction, TooMany, NotAPosition, WrongType, WrongWidth, TooLarge, AbsentAttribute, NoRoom}
use Rattle.table.specs.Call.{ok, refused, Done as Called, done, refusal, fitted, build, call, Lent, lent, call_on}

-- a step that was built fits below the end, one that had no room does not
then_fits : {o : Out} {c : List ℕ} {m : ℕ} {v : Reply} {c' : List ℕ} {m' p : ℕ} → v ≡ built m' p → Done o c m v c' → mark o.arena ≤ length c
then_fits {o} {c} e d =
    let x = ap length (then_cells e d) ∙ length-append (cells o.arena) (replicate (length c - mark o.arena) 0) in
    let y = length-cells o.arena in
    let z = d.long in
    omega arith

stop_full : {o : Out} {c : List ℕ} {m : ℕ} {v : Reply} {c' : List ℕ} → v ≡ full → Done o c m v c' → leb (mark o.arena) (length c) ≡ false
stop_full {o} {c} e d = go (leb (mark o.arena) (length c)) refl
  where
    go : (b : Bool) → leb (mark o.arena) (length c) ≡ b → leb (mark o.arena) (length c) ≡ false
    go true h = let q : full ≡ built (mark o.arena) o.at = sym e ∙ d.answer ∙ reply-fits (length c) o (leb-true _ _ h) in let z : ◌≡◌ {A = ℕ} 0 1 = cc in absurd (omega arith)
    go false h = h

abbrev left : ℕ → Called → Lent
left n d = lent d.reply (padded n d.after)

some_number : (e : Refusal) → number_of e ≡ 0 → ⊥
some_number NotAnArena q = absurd (cc)
some_number NotAnInstruction q = absurd (cc)
some_number TooMany q = absurd (cc)
some_number NotAPosition q = absurd (cc)
some_number WrongType q = absurd (cc)
some_number WrongWidth q = absurd (cc)
some_number TooLarge q = absurd (cc)
some_number AbsentAttribute q = absurd (cc)
some_number NoRoom q = absurd (cc)

module _ (c : List ℕ) (m : ℕ) (i : Instr) where
  pub not_formed : formed c m ≡ false → call_on c m i ≡ lent (refused 1) c
  unfolding call_on
  not_formed e = ap (λ (b : Bool). elim b [ false ↦ lent (refused 1) c | true ↦ left (length c) (call (length c) (used c m) i) ]) e

  module _ (A : IsArena c m) where
    on_arena : call_on c m i ≡ left (length c) (call (length c) (used c m) i)
    unfolding call_on
    on_arena = ap (λ (b : Bool). elim b [ false ↦ lent (refused 1) c | true ↦ left (length c) (call (length c) (used c m) i) ]) (arena-formed c m A)

    whole : lent (refused 9) (padded (length c) (used c m)) ≡ lent (refused 9) c
    whole = ap (lent (refused 9)) (sym (arena-cells A))

    pub by_refusal : (n : ℕ) → n ≡ refusal (used c m) i → (n ≡ 0 → ⊥) → call_on c m i ≡ lent (refused n) c
    unfolding call
    by_refusal zero e h = absurd (h refl)
    by_refusal (suc k) e h =
        on_arena ∙ ap (λ (r : ℕ). left (length c) (elim r [ zero ↦ fitted (length c) (used c m) (build (used c m) i) | suc k ↦ done (refused (suc k)) (used c m) ])) (sym e)
        ∙ ap (lent (refused (suc k))) (sym (arena-cells A))

    pub by_refused : (e : Refusal) → number_of e ≡ refusal (used c m) i → (reply_of (Err e) ≡ (call_on c m i).reply) × (c ≡ (call_on c m i).cells)
    by_refused e q =
        let z = by_refusal (number_of e) q (some_number e) in
        (sym (ap (λ (l : Lent). l.reply) z), sym (ap (λ (l : Lent). l.cells) z))

    by_fit : refusal (used c m) i ≡ 0 → call_on c m i ≡ left (length c) (fitted (length c) (used c m) (build (used c m) i))
    unfolding call
    by_fit e = on_arena ∙ ap (λ (r : ℕ). left (length c) (elim r [ zero ↦ fitted (length c) (used c m) (build (used c m) i) | suc k ↦ done (refused (suc k)) (used c m) ])) e

    module _ (e : refusal (used c m) i ≡ 0) {v : Reply} {c' : List ℕ} (d : Done (build (used c m) i) c m v c') where
      pub by_built : {m' p : ℕ} → v ≡ built m' p → (ok p m' ≡ (call_on c m i).reply) × (c' ≡ (call_on c m i).cells)
      unfolding fitted
      by_built {m'} {p} q =
          let o = build (used c m) i in
          let z = by_fit e ∙ ap (λ (b : Bool). left (length c) (elim b [ true ↦ done (ok o.at (mark o.arena)) o.arena | false ↦ done (refused 9) (used c m) ])) (le-leb _ _ (then_fits q d)) in
          (ap₂ ok (then_at q d) (then_mark q d) ∙ sym (ap (λ (l : Lent). l.reply) z), then_cells q d ∙ sym (ap (λ (l : Lent). l.cells) z))

      pub by_full : v ≡ full → (refused 9 ≡ (call_on c m i).reply) × (cleared c' m ≡ (call_on c m i).cells)
      unfolding fitted
      by_full q =
          let o = build (used c m) i in
          let z = by_fit e ∙ ap (λ (b : Bool). left (length c) (elim b [ true ↦ done (ok o.at (mark o.arena)) o.arena | false ↦ done (refused 9) (used c m) ])) (stop_full q d) ∙ whole in
          (sym (ap (λ (l : Lent). l.reply) z), did_clear A d ∙ sym (ap (λ (l : Lent). l.cells) z))

-- what is accepted lists as many operands as its count says
pub counted : (a : Nodes) (o p n : ℕ) (xs : List ℕ) → Held n xs → refusal a (instr o p n xs) ≡ 0 → (length xs ≡ n) × Passes a o p xs
counted a o p n xs h e =
    let q = h (few a (instr o p n xs) e) in
    (q, subst (λ (k : ℕ). refusal a (instr o p k xs) ≡ 0) (sym q) e)

pub min_low : {n : ℕ} → n ≤ 257 → min n 257 ≡ n
min_low h = omega arith

-- as many operands of an array of 257 as the count says
pub held-take : (l : List ℕ) (n k : ℕ) → length l ≡ 257 → k ≡ min n 257 → take n l ≡ take k l
held-take l n k h e = go (leb n 257) refl
  where
    go : (b : Bool) → leb n 257 ≡ b → take n l ≡ take k l
    go true q = let z = leb-true n 257 q in let y : n ≡ k = omega arith in ap (λ (j : ℕ). take j l) y
    go false q = let z = leb-false n 257 q in take_all n l (omega arith) ∙ sym (take_all k l (omega arith))
