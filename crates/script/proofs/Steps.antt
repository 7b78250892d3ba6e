-- A step moves on within the bytes, writes a short line and leaves an arena; and how a run goes on from it. Assumes nothing.
use mathlib.Core.Path.{◌≡◌, refl, sym, ap, ◌∙◌, subst}
use mathlib.Core.List.{List, []}
use Prim.Native.Nat.{ℕ, zero, suc, ◌+◌, ◌*◌, ◌≤◌, ◌<◌}
use native.Mathlib.Omega.{arith}
use borrow.Author.Tests.{leb-false, le-leb, lt-leb}
use lib.Dec.{leb}
use lib.ListN.{length}
use Rattle.arena.specs.WellFormed.{IsArena}
use Rattle.codec.specs.Instructions.{Reading, whole, bad, instruction_at}
use Rattle.codec.proofs.Choices.{cond_else}
use Rattle.codec.proofs.Listed.{instruction_read}
use Rattle.answers.proofs.Answers.{refused-most}
use Rattle.table.specs.Call.{call_on}
use Rattle.table.proofs.Kept.{Small, kept, small}
use Rattle.script.specs.Script.{lent, State, Step, wrote, step_on, step, onto, steps, ran}
use Rattle.script.proofs.Short.{three_bytes, line_short}

-- ---- how many steps there are

module _ (bytes : List ℕ) where
  step_on_lem : (s : State) (l : Reading) → instruction_at bytes s.at ≡ l → s.at < length bytes → s.at < (step_on (length bytes) s l).next.at
  unfolding step_on
  step_on_lem s (whole i behind) e h = let b = three_bytes bytes s.at i behind e in omega arith
  step_on_lem s bad e h = h

  pub step_passes : (s : State) → s.at < length bytes → s.at < (step bytes s).next.at
  step_passes s h = step_on_lem s (instruction_at bytes s.at) refl h

  pub steps_end : (k : ℕ) (s : State) → length bytes ≤ s.at → steps k bytes s ≡ wrote [] s
  unfolding steps
  steps_end zero s h = refl
  steps_end (suc k) s h = rw (le-leb (length bytes) s.at h)

  -- more than enough changes nothing
  pub enough : (k j : ℕ) (s : State) → length bytes ≤ s.at + k → length bytes ≤ s.at + j → steps k bytes s ≡ steps j bytes s
  unfolding steps
  enough zero j s hk hj = sym (steps_end j s (omega arith))
  enough (suc k) zero s hk hj = steps_end (suc k) s (omega arith)
  enough (suc k) (suc j) s hk hj =
      cond_else (leb (length bytes) s.at) (wrote [] s)
      (λ e. let p = step_passes s (leb-false (length bytes) s.at e) in ap (onto (step bytes s).text) (enough k j (step bytes s).next (omega arith) (omega arith)))

  steps_more : (k : ℕ) (s : State) → length bytes ≤ s.at + k → s.at < length bytes → steps k bytes s ≡ onto (step bytes s).text (steps k bytes (step bytes s).next)
  unfolding steps
  steps_more zero s h l = absurd (omega arith)
  steps_more (suc k) s h l =
      let p = step_passes s l in
      rw (lt-leb (length bytes) s.at l) (ap (onto (step bytes s).text) (enough k (suc k) (step bytes s).next (omega arith) (omega arith)))

  -- a run is its first step and the run from there
  pub ran_more : (s : State) → s.at < length bytes → ran bytes s ≡ onto (step bytes s).text (ran bytes (step bytes s).next)
  ran_more s h = steps_more (length bytes) s (omega arith) h

  pub ran_end : (s : State) → length bytes ≤ s.at → ran bytes s ≡ wrote [] s
  ran_end s h = steps_end (length bytes) s h

-- ---- what a step leaves

-- a script stands well with so many bytes written: 13 for three that were read, unless it has stopped
pub record Stands (bytes : List ℕ) (s : State) (end : ℕ) : Type 0 where
  pub arena : IsArena s.cells s.mark
  pub long : length s.cells ≡ lent
  pub few : s.at < length bytes → 3 * end ≤ 13 * s.at

-- what a step from s does
pub record Goes (bytes : List ℕ) (s : State) (end : ℕ) (t : Step) : Type 0 where
  pub stands : Stands bytes t.next (end + length t.text)
  pub most : length t.text ≤ 29

module _ (bytes : List ℕ) (s : State) (end : ℕ) (w : Stands bytes s end) (more : s.at < length bytes) where
  step-reads : (l : Reading) → instruction_at bytes s.at ≡ l → Goes bytes s end (step_on (length bytes) s l)
  unfolding step_on
  step-reads (whole i behind) e =
      let k = kept s.cells s.mark i (λ h. ((instruction_read bytes s.at i behind).0 e).counted) w.arena in
      let b = three_bytes bytes s.at i behind e in
      let h = line_short (call_on s.cells s.mark i).reply (subst (λ (n : ℕ). Small n (call_on s.cells s.mark i).reply) w.long (small k)) in
      let f = w.few more in
      record {
        stands = record { arena = k.arena; long = k.long ∙ w.long; few = λ _. omega arith };
        most = omega arith;
      }
  step-reads bad e =
      record {
        stands = record { arena = w.arena; long = w.long; few = λ h. absurd (omega arith) };
        most = refused-most 10 (omega arith);
      }

  pub step_goes : Goes bytes s end (step bytes s)
  step_goes = step-reads (instruction_at bytes s.at) refl
