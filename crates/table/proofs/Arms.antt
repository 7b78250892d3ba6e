-- What an arm of the dispatcher knows: the arena is well formed, and the operation of that number passed its tests.
use mathlib.Core.Path.{◌≡◌}
use Prim.Native.Nat.{ℕ}
use mathlib.Core.List.{List}
use lib.ListN.{length}
use Rattle.arena.specs.Nodes.{Nodes}
use Rattle.arena.proofs.Chain.{WF}
use Rattle.nodes.specs.declared.Arena.{Arena}
use Rattle.nodes.specs.Builds.{nodes_of}
use Rattle.factory.specs.Fit.{Ready}
use Rattle.factory.proofs.Calls.{ready_wf}
use Rattle.table.specs.Table.{row}
use Rattle.table.specs.Forms.{instr, Passes}
use Rattle.table.proofs.Fits.{Passed}
use Rattle.table.proofs.Dispatch.{passed_at}

pub record InArm (a : Nodes) (k par : ℕ) (xs : List ℕ) : Type 0 where
  pub wf : WF a
  pub tests : Passed a (instr k par (length xs) xs) (row k)

pub passed_in : {o : Arena} {op par : ℕ} {xs : List ℕ} (k : ℕ) → op ≡ k → Ready (λ a. Passes a op par xs) o → InArm (nodes_of o) k par xs
passed_in {o} {op} {par} {xs} k e r = record { wf = ready_wf r; tests = passed_at (nodes_of o) op par xs k e r.fit }
