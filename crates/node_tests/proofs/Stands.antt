-- What stands at a position below q.
use mathlib.Core.Path.{◌≡◌, refl, sym, ap, ◌∙◌}
use Prim.Native.Nat.{ℕ, zero, suc, ◌+◌, ◌*◌, ◌/◌, ◌%◌, ◌≤◌, ◌<◌}
use native.Mathlib.Omega.{arith}
use mathlib.Core.List.{List, [], ◌∷◌}
use lib.ListN.{length, get_or}
use Rattle.arena.specs.Nodes.{Node, Nodes, nowhere, node_at, kind_at, mem_at, field_types}
use Rattle.arena.specs.Cells.{cells_of, used}
use Rattle.arena.specs.WellFormed.{Below}
use Rattle.arena.specs.Lent.{Starts}
use Rattle.arena.proofs.Formed.{wf}
use Rattle.arena.proofs.Read.{node-fits, cell, nowhere-at}
use Rattle.arena.proofs.Lent.{far, no_start, slot}

all_zero : (j : ℕ) → get_or (cells_of nowhere) j 0 ≡ 0
all_zero zero = refl
all_zero (suc zero) = refl
all_zero (suc (suc zero)) = refl
all_zero (suc (suc (suc zero))) = refl
all_zero (suc (suc (suc (suc j)))) = refl

module _ {c : List ℕ} {q : ℕ} {f : List ℕ} (B : Below c q) (S : Starts (used c q) f) (p : ℕ) where
  -- where no node starts, nothing stands
  none : kind_at (used c q) p ≡ 0 → (j : ℕ) → 0 ≡ get_or (cells_of (node_at (used c q) p)) j 0
  none e j = sym (ap (λ (n : Node). get_or (cells_of n) j 0) (nowhere-at (wf B).chain p e) ∙ all_zero j)

  pub none_past : q ≤ p → (j : ℕ) → 0 ≡ get_or (cells_of (node_at (used c q) p)) j 0
  none_past h = none (far B S p h)

  pub none_there : (get_or f (p / 4) 0 ≡ p % 4 + 1 → ⊥) → (j : ℕ) → 0 ≡ get_or (cells_of (node_at (used c q) p)) j 0
  none_there h = none (no_start B S p h)

  pub own_slot : p < q → p / 4 < length f
  own_slot = slot B S p

  module _ (h : get_or f (p / 4) 0 ≡ p % 4 + 1) (j : ℕ) (l : j ≤ 3) where
    pub look_cell : get_or c (p + j) 0 ≡ get_or (cells_of (node_at (used c q) p)) j 0
    look_cell = cell B p (S.no p h) j (omega arith)

    pub look_fits : p + j < length c
    look_fits = let x = node-fits B p (S.no p h) in let y = B.fits in omega arith

-- nor has it members
pub no_members : {c : List ℕ} {q : ℕ} (B : Below c q) (p : ℕ) → kind_at (used c q) p ≡ 0 → mem_at (used c q) p ≡ []
no_members B p e = ap (λ (n : Node). n.mem) (nowhere-at (wf B).chain p e)

-- ---- the types of what fields hold

pub types_length : (a : Nodes) (l : List ℕ) → length (field_types a l) ≡ length l / 2 * 2
unfolding field_types
types_length a [] = refl
types_length a (x ∷ []) = refl
types_length a (x ∷ y ∷ l) = let h = types_length a l in omega arith
