-- The sort of what starts at a number, by the kind of the node there.
use mathlib.Core.Path.{◌≡◌, refl, sym, ap, ◌∙◌}
use Prim.Native.Nat.{ℕ, ◌≤◌}
use native.Mathlib.Omega.{arith}
use mathlib.Core.Bool.{Bool, true, false, cond}
use lib.Dec.{leb}
use borrow.Author.Tests.{leb-true}
use Rattle.arena.specs.Lists.{within}
use Rattle.arena.specs.Nodes.{Nodes, kind_at}
use Rattle.arena.proofs.Bools.{every-all}
use Rattle.table.specs.Call.{sort_ok}
use Rattle.table.specs.Forms.{sort}

pub sort_by : (a : Nodes) (t : Bool) (x : ℕ) → sort_ok a (sort t) x ≡ cond t (within 1 15 (kind_at a x)) (leb 16 (kind_at a x))
unfolding sort_ok
sort_by a true x = refl
sort_by a false x = refl

-- a node of either sort is there
pub sort_pos : (t : Bool) (k : ℕ) → cond t (within 1 15 k) (leb 16 k) ≡ true → 1 ≤ k
sort_pos true k e = leb-true 1 k (every-all _ e).0
sort_pos false k e = let z = leb-true 16 k e in omega arith

-- what is tested of the kind is what is asked of the operand
pub sorted_as : (a : Nodes) (t : Bool) (x k : ℕ) (r : Bool) → k ≡ kind_at a x → r ≡ cond t (within 1 15 k) (leb 16 k) → sort_ok a (sort t) x ≡ r
sorted_as a t x k r e f = sort_by a t x ∙ ap (λ (n : ℕ). cond t (within 1 15 n) (leb 16 n)) (sym e) ∙ sym f
