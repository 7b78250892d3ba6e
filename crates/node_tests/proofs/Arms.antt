-- A node's positions, by the step of its members.
use mathlib.Core.Path.{◌≡◌, refl, sym, ap, ◌∙◌}
use Prim.Native.Nat.{ℕ}
use native.Mathlib.Omega.{arith}
use mathlib.Core.Bool.{Bool, true, false, cond}
use mathlib.Core.List.{List, [], ◌∷◌}
use lib.Dec.{eqb}
use Rattle.arena.specs.Lists.{all, odds}
use Rattle.arena.specs.Nodes.{Nodes, paired, positions}
use Rattle.arena.specs.WellFormed.{is_type, placed}
use Rattle.arena.proofs.Bools.{every-all}
use Rattle.arena.proofs.Runs.{all_get}
use Rattle.runs.specs.Strides.{held}
use Rattle.node_tests.specs.Decide.{ElemType}

-- a run by the step of a kind
pub held_positions : (k s : ℕ) (ms : List ℕ) → s ≡ cond (paired k) 2 1 → held s ms ≡ positions k ms
unfolding positions
held_positions k s ms e = ap (λ (s : ℕ). held s ms) e ∙ go (paired k)
  where
    go : (b : Bool) → held (cond b 2 1) ms ≡ cond b (odds ms) ms
    go true = refl
    go false = refl

-- the single member of a Set is a type
pub elem_type : (a : Nodes) (k t : ℕ) (ms : List ℕ) → placed a k t ms ≡ true → k ≡ 4 → ElemType a ms
unfolding placed positions
elem_type a k t ms g e l =
    let w : placed a 4 t ms ≡ true = ap (λ (j : ℕ). placed a j t ms) (sym e) ∙ g in
    let v = every-all (eqb t 0 ∷ all (is_type a) ms ∷ []) w in
    all_get (is_type a) ms v.1.0 0 (omega arith)
