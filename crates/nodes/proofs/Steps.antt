-- How builders are put together: what one leaves in an arena is what the next one asks, and one that had no room ends the row.
use mathlib.Core.Path.{◌≡◌, refl, sym, ◌∙◌, subst}
use Prim.Native.Nat.{ℕ}
use native.Mathlib.Omega.{arith}
use Rattle.std.specs.Prelude.{Option, Some, None, Result, Ok, Err, IsErr}
use Rattle.arena.specs.Nodes.{Nodes, Out, out, ◌⨟◌}
use Rattle.arena.proofs.Ext.{Ext}
use Rattle.arena.proofs.Chain.{WF}
use Rattle.arena.proofs.Formed.{wf}
use Rattle.arena.proofs.Steps.{then_mark, then_used, then_at, then_arena, did_then, did_stop, did_here, picked}
use Rattle.nodes.specs.declared.Arena.{Arena}
use Rattle.arena.specs.declared.TermPos.{TermPos}
use Rattle.nodes.specs.declared.Full.{Full}
use Rattle.nodes.specs.Builds.{nodes_of, Formed, term_reply, Builds}

pub formed_wf : (o : Arena) → Formed o → WF (nodes_of o)
formed_wf o f = wf f.below

-- a term that is there already
pub builds_here : (o : Arena) → Formed o → (p : ℕ) → Builds (λ a. out a p) o (Some p) o
builds_here o f p = record { same = refl; did = did_here f p; stopped = λ e. absurd cc }

-- the step is the one that its tests pick
pub builds_as : {F G : Nodes → Out} {o : Arena} {r : Option ℕ} {n : Arena} → Builds F o r n → G (nodes_of o) ≡ F (nodes_of o) → Builds G o r n
builds_as b e = record { same = b.same; did = picked b.did e; stopped = b.stopped }

-- ---- a step that was built

module _ {F : Nodes → Out} (o n : Arena) {p : ℕ} (b : Builds F o (Some p) n) where
  -- what holds of its arena and its answer
  pub next_fit : (P : Nodes → ℕ → Type 0) → P (F (nodes_of o)).arena (F (nodes_of o)).at → P (nodes_of n) p
  next_fit P h =
      subst (λ (a : Nodes). P a p) (sym (then_used refl b.did)) (subst (λ (x : ℕ). P (F (nodes_of o)).arena x) (sym (then_at refl b.did)) h)

  -- the next step may be called
  pub next_formed : Formed o → WF (F (nodes_of o)).arena → Formed n
  next_formed f w = then_arena refl b.did f w

  -- and its answer is the row's
  pub builds_then : (G : Nodes → ℕ → Out) {r : Option ℕ} {q : Arena} → Builds (λ a. G a p) n r q → Builds (λ a. F a ⨟ G) o r q
  builds_then G s =
      let m = then_mark refl b.did in
      let g = b.did.grown in
      record { same = s.same ∙ b.same; did = did_then refl b.did G s.did; stopped = λ e. let t = s.stopped e in (t.0, (let h = t.1 in omega arith)) }

-- ---- a step that had no room, and the row that a `?` leaves there

pub builds_stop : {F : Nodes → Out} (o : Arena) {n : Arena} (G : Nodes → Out) → Builds F o None n → Ext (F (nodes_of o)).arena (G (nodes_of o)).arena → Builds G o None n
builds_stop o G b x = record { same = b.same; did = did_stop refl b.did x; stopped = b.stopped }

pub term_stop : {F : Nodes → Out} (o : Arena) {n : Arena} (G : Nodes → Out) (r : Result TermPos Full) → IsErr r → Builds F o None n
    → Ext (F (nodes_of o)).arena (G (nodes_of o)).arena → Builds G o (term_reply r) n
term_stop o G (Ok t) e b x = absurd cc
term_stop o G (Err f) e b x = builds_stop o G b x
