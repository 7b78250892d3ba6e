-- The lines so far and the run that is left: what holds from step to step, and what the functions promise at the end. Assumes nothing.
use mathlib.Core.Path.{◌≡◌, refl, sym, ap, ◌∙◌, subst}
use mathlib.Core.List.{List, [], ◌++◌, append_assoc, append-nil}
use Prim.Native.Nat.{ℕ, ◌+◌, ◌≤◌, ◌<◌}
use native.Mathlib.Omega.{arith}
use borrow.Author.Tests.{le-leb, lt-leb}
use lib.ListN.{length, length-append}
use Rattle.arena.specs.Nodes.{mark, fresh}
use Rattle.arena.specs.Cells.{padded}
use Rattle.arena.specs.Fresh.{Freshened}
use Rattle.arena.proofs.Formed.{mark_is}
use Rattle.arena.proofs.Padded.{arena-cells}
use Rattle.arena.proofs.FreshCells.{made_used, made_arena}
use Rattle.instruction.specs.Instruction.{Instr}
use Rattle.codec.specs.Instructions.{whole, bad, instruction_at}
use Rattle.codec.specs.Writing.{put, Puts}
use Rattle.answers.specs.Lines.{refused_line}
use Rattle.codec.proofs.Putting.{length-put, puts_puts, puts_inside}
use Rattle.table.specs.Call.{Reply}
use Rattle.table.specs.Answers.{Answer, reply_of, Answered, mark_after}
use Rattle.answers.specs.Replies.{line_of}
use Rattle.script.specs.Script.{longest, lent, State, state, start, Step, wrote, step_on, step, onto, ran, answers, cells_after}
use Rattle.script.specs.Running.{room, Stepped, Ready, Walked, Ran}
use Rattle.script.specs.declared.Place.{Place}
use Rattle.script.proofs.Steps.{step_passes, ran_more, ran_end, Stands, step_goes}

-- ---- one step

module _ {bytes c out : List ℕ} {p r : Place} {c' out' : List ℕ} where
  pub stepped_bad : instruction_at bytes p.at ≡ bad → c' ≡ c → r.mark ≡ p.mark → r.at ≡ length bytes → Puts out p.end (refused_line 10) r.end out' → Stepped bytes c out p r c' out'
  unfolding step_on
  stepped_bad e f m a w =
      record { written = rw e w; moved = rw e (λ j. state (f j) (m j) (a j)) }

  pub stepped_whole : {i : Instr} {behind : ℕ} {y : Reply} (a : Answer) → instruction_at bytes p.at ≡ whole i behind → Answered c p.mark i a c' → y ≡ reply_of a
      → r.mark ≡ mark_after p.mark y → r.at ≡ behind → Puts out p.end (line_of y) r.end out' → Stepped bytes c out p r c' out'
  unfolding step_on
  stepped_whole a e t n m b w =
      record {
        written = rw e (subst (λ (l : Reply). Puts out p.end (line_of l) r.end out') (n ∙ t.0) w);
        moved = rw e (λ j. state (t.1 j) ((m ∙ ap (mark_after p.mark) (n ∙ t.0)) j) (b j));
      }

  pub stepped_on : Stepped bytes c out p r c' out' → p.at < length bytes → p.at < r.at
  stepped_on t h = let e = ap (λ (s : State). s.at) t.moved in omega (arith, step_passes bytes (state c p.mark p.at) h)

-- ---- the steps so far

pub record Going (bytes : List ℕ) (s₀ : State) (out₀ : List ℕ) (s : State) (end : ℕ) (out : List ℕ) : Type 0 where
  pub stands : Stands bytes s end
  pub told : List ℕ
  pub fits : length told ≤ length out₀
  pub written : Puts out₀ 0 told end out
  pub rest : ran bytes s₀ ≡ onto told (ran bytes s)

pub going_none : {bytes c : List ℕ} {m : ℕ} {out : List ℕ} → Ready bytes c m out → Going bytes (state c m 0) out (state c m 0) 0 out
unfolding put
going_none h = record {
  stands = record { arena = h.arena; long = h.long; few = λ _. omega arith };
  told = [];
  fits = omega arith;
  written = record { behind = refl; bytewise = refl };
  rest = refl;
}

module _ {bytes : List ℕ} {s₀ : State} {out₀ : List ℕ} {s : State} {end : ℕ} {out : List ℕ} (g : Going bytes s₀ out₀ s end out) where
  pub going_length : length out ≡ length out₀
  going_length = ap length g.written.bytewise ∙ length-put g.told out₀ 0 (omega (arith, g.fits))

  -- before a step, with room
  module _ (short : length bytes ≤ longest) (roomy : room ≤ length out₀) (more : s.at < length bytes) where
    pub going_room : end + 45 ≤ length out
    going_room = let l = going_length in let f = g.stands.few more in omega arith

    pub going_step : {end' : ℕ} {out' : List ℕ} → Puts out end (step bytes s).text end' out' → Going bytes s₀ out₀ (step bytes s).next end' out'
    going_step {end'} {out'} w =
        let q = step_goes bytes s end g.stands more in
        let t = (step bytes s).text in
        let l = length-append g.told t in
        let b = g.written.behind in
        let h = going_room in
        let k = going_length in
        let m = q.most in
        let r = ran bytes (step bytes s).next in
        let f : 0 + length (g.told ++ t) ≤ length out₀ = omega arith in
        record {
          stands = subst (Stands bytes (step bytes s).next) (sym w.behind) q.stands;
          told = g.told ++ t;
          fits = omega arith;
          written = puts_puts f g.written w;
          rest = g.rest ∙ ap (onto g.told) (ran_more bytes s more) ∙ ap (λ (x : List ℕ). wrote x r.next) (sym (append_assoc g.told t r.text));
        }

  -- no byte is left
  pub going_end : length bytes ≤ s.at → Puts out₀ 0 (ran bytes s₀).text end out × (s.cells ≡ (ran bytes s₀).next.cells)
  going_end h =
      let e = g.rest ∙ ap (onto g.told) (ran_end bytes s h) in (
        subst (λ (t : List ℕ). Puts out₀ 0 t end out) (sym (ap (λ (x : Step). x.text) e ∙ append-nil g.told)) g.written,
        sym (ap (λ (x : Step). x.next.cells) e),
      )

pub going_stepped : {bytes : List ℕ} {s₀ : State} {out₀ c out : List ℕ} {p r : Place} {c' out' : List ℕ} → Going bytes s₀ out₀ (state c p.mark p.at) p.end out
    → length bytes ≤ longest → room ≤ length out₀ → p.at < length bytes → Stepped bytes c out p r c' out' → Going bytes s₀ out₀ (state c' r.mark r.at) r.end out'
going_stepped {bytes} {s₀} {out₀} {r = r} {out' = out'} g h l m t =
    subst (λ (s : State). Going bytes s₀ out₀ s r.end out') (sym t.moved) (going_step g h l m t.written)

-- ---- the whole

module _ {bytes c out : List ℕ} {r : ℕ} {c' out' : List ℕ} where
  pub ran-long : longest < length bytes → c' ≡ c → Puts out 0 (refused_line 10) r out' → Ran bytes c out r c' out'
  unfolding answers cells_after
  ran-long h e w = record { written = rw (lt-leb (length bytes) longest h) w; left = rw (lt-leb (length bytes) longest h) e }

  pub ran-short : {b : List ℕ} {m : ℕ} → length bytes ≤ longest → length c ≡ lent → length b ≡ length c → Freshened c m b → Walked bytes b m out r c' out' → Ran bytes c out r c' out'
  unfolding answers cells_after
  ran-short {b} {m} h l k f w =
      let A = made_arena f (omega arith) (omega arith) in
      let u = made_used f (omega arith) (omega arith) in
      let n = k ∙ l in
      let x : b ≡ padded lent fresh = arena-cells A ∙ (λ j. padded (n j) (u j)) in
      let y : m ≡ mark fresh = sym (mark_is A.below) ∙ ap mark u in
      let e : state b m 0 ≡ start = λ j. state (x j) (y j) 0 in
      record {
        written = rw (le-leb (length bytes) longest h) (subst (λ (s : State). Puts out 0 (ran bytes s).text r out') e w.written);
        left = rw (le-leb (length bytes) longest h) (w.left ∙ ap (λ (s : State). (ran bytes s).next.cells) e);
      }

pub ready : {bytes c : List ℕ} {m : ℕ} {b out : List ℕ} → length bytes ≤ longest → length c ≡ lent → length b ≡ length c → room ≤ length out → Freshened c m b → Ready bytes b m out
ready h l k r f = record { short = h; arena = made_arena f (omega arith) (omega arith); long = k ∙ l; roomy = r }

-- the lines stand within the lent bytes
pub ran-inside : {bytes c out : List ℕ} {r : ℕ} {c' out' : List ℕ} → Ran bytes c out r c' out' → r ≤ length out'
ran-inside w = puts_inside (omega arith) w.written

-- what the promise allows is one
pub ran-one : {bytes c out : List ℕ} {r s : ℕ} {c' d out' back : List ℕ} → Ran bytes c out r c' out' → Ran bytes c out s d back → (r ≡ s) × (c' ≡ d) × (out' ≡ back)
ran-one x y = (x.written.behind ∙ sym y.written.behind, x.left ∙ sym y.left, x.written.bytewise ∙ sym y.written.bytewise)
