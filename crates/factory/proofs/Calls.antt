-- What one builder leaves for the next one to ask. Assumes nothing.
use mathlib.Core.Path.{◌≡◌}
use Prim.Native.Nat.{ℕ, ◌≤◌}
use native.Mathlib.Omega.{arith}
use mathlib.Core.Bool.{true}
use borrow.Author.Tests.{leb-true}
use Rattle.std.specs.Prelude.{Some}
use Rattle.arena.specs.Nodes.{Nodes, kind_at, Out}
use Rattle.arena.specs.WellFormed.{is_term}
use Rattle.arena.proofs.Chain.{WF}
use Rattle.arena.proofs.Formed.{wf}
use Rattle.nodes.specs.declared.Arena.{Arena}
use Rattle.nodes.specs.Builds.{nodes_of, Formed, Builds}
use Rattle.nodes.proofs.Steps.{next_formed, next_fit}
use Rattle.factory.specs.Fit.{Ready}

-- a term starts a node
pub term_pos : (a : Nodes) (x : ℕ) → is_term a x ≡ true → 1 ≤ kind_at a x
term_pos a x h = let l = leb-true 16 (kind_at a x) h in omega arith

pub ready_wf : {P : Nodes → Type 0} {o : Arena} → Ready P o → WF (nodes_of o)
ready_wf r = wf r.arena.below

-- after a step that was built, what holds of its arena and its answer
pub ready_next : {F : Nodes → Out} (P : Nodes → ℕ → Type 0) (o n : Arena) {p : ℕ}
    → Builds F o (Some p) n → Formed o → WF (F (nodes_of o)).arena → P (F (nodes_of o)).arena (F (nodes_of o)).at → Ready (λ a. P a p) n
ready_next P o n b f w h = record { arena = next_formed o n b f w; fit = next_fit o n b P h }
