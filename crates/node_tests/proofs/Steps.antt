-- From node to node: the first tests, and the loop up to the mark.
use mathlib.Core.Path.{◌≡◌, refl, sym, ap, ◌∙◌, subst}
use Prim.Native.Nat.{ℕ, ◌*◌, ◌≤◌, ◌<◌}
use native.Mathlib.Omega.{arith}
use mathlib.Core.Bool.{Bool, true, false}
use mathlib.Core.List.{List, [], ◌∷◌}
use lib.ListN.{length, take, drop, set, replicate, length-set, length-replicate}
use lib.Dec.{eqb, leb}
use borrow.Author.Tests.{le-leb, leb-true}
use Rattle.arena.specs.Lists.{every, within, all, same_list}
use Rattle.arena.specs.Nodes.{Nodes, fresh}
use Rattle.arena.specs.Cells.{cells, used, node_here, after}
use Rattle.arena.specs.WellFormed.{good_node, absent, clear, formed, Below}
use Rattle.arena.specs.Lent.{Starts}
use Rattle.arena.proofs.Bools.{t≢f, every-all}
use Rattle.arena.proofs.Runs.{same_list_lem, same_refl}
use Rattle.arena.proofs.Formed.{arena-formed, not_formed}
use Rattle.arena.proofs.Tiling.{must_fit, must_good, must_new, fresh-below, fresh-used, must_fresh}
use Rattle.arena.proofs.Lent.{starts-fresh}
use Rattle.node_tests.specs.Decide.{First}

-- ---- the loop over the nodes

-- the nodes below q are read, of those below m
pub record Going (c : List ℕ) (m len q : ℕ) (f : List ℕ) : Type 0 where
  pub below : Below c q
  pub starts : Starts (used c q) f
  pub from : 12 ≤ q
  pub to : q ≤ m
  pub fits : m ≤ length c
  pub short : length c ≤ 65536
  pub kept : length f ≡ len
  pub long : m ≤ 4 * length f

module _ {c : List ℕ} {m q : ℕ} (B : Below c q) (h : q < m) where
  pub bad-room : (after c q ≤ m → ⊥) → false ≡ formed c m
  bad-room f = not_formed c m (λ A. f (must_fit A.below B h))

  pub bad_good : (r : Bool) → r ≡ good_node (used c q) (node_here c q) → r ≡ false → false ≡ formed c m
  bad_good r e z = not_formed c m (λ A. t≢f (sym (must_good A.below B h) ∙ sym e ∙ z))

  pub bad_new : (r : Bool) → r ≡ absent (used c q) (node_here c q) → r ≡ false → false ≡ formed c m
  bad_new r e z = not_formed c m (λ A. t≢f (sym (must_new A.below B h) ∙ sym e ∙ z))

pub begin : {c : List ℕ} {m : ℕ} {f : List ℕ} → First c m f → Going c m (length f) 12 f
begin F = record {
  below = F.below;
  starts = F.starts;
  from = omega arith;
  to = F.least;
  fits = F.fits;
  short = F.below.short;
  kept = refl;
  long = let x = F.fits in let y = F.below.short in let z = F.long in omega arith;
}

pub at_end : {c : List ℕ} {m q : ℕ} {f : List ℕ} → First c m f → Below c q → q ≡ m → true ≡ formed c m
at_end {c} {m} F B e = sym (arena-formed c m (record { below = subst (Below c) e B; zeros = F.zeros }))

-- ---- the first tests

inside : (lo hi x : ℕ) → lo ≤ x → x ≤ hi → within lo hi x ≡ true
unfolding every
inside lo hi x a b = rw (le-leb lo x a, le-leb x hi b) refl

bounds : (lo hi x : ℕ) → within lo hi x ≡ true → (lo ≤ x) × (x ≤ hi)
bounds lo hi x h = let t = every-all (leb lo x ∷ leb x hi ∷ []) h in (leb-true _ _ t.0, leb-true _ _ t.1.0)

module _ (c : List ℕ) (m : ℕ) where
  pub bad_length : within 12 65536 (length c) ≡ false → false ≡ formed c m
  bad_length h = not_formed c m (λ A. let x = A.below.least in let y = A.below.fits in t≢f (sym (inside 12 65536 (length c) (omega arith) A.below.short) ∙ h))

  pub bad_mark : within 12 (length c) m ≡ false → false ≡ formed c m
  bad_mark h = not_formed c m (λ A. t≢f (sym (inside 12 (length c) m A.below.least A.below.fits) ∙ h))

  pub not_zeros : (r : Bool) → r ≡ all (λ x. eqb x 0) (drop m c) → r ≡ false → false ≡ formed c m
  unfolding clear
  not_zeros r e z = not_formed c m (λ A. t≢f (sym A.zeros ∙ sym e ∙ z))

  pub not_fresh : (r : Bool) → r ≡ same_list (take 12 c) (cells fresh) → r ≡ false → false ≡ formed c m
  not_fresh r e z = not_formed c m (λ A.
      let f = must_fresh A.below in
      t≢f (sym (same_refl (cells fresh)) ∙ ap (λ (l : List ℕ). same_list l (cells fresh)) (sym f) ∙ sym e ∙ z))

  pub first : (r s : Bool) → within 12 65536 (length c) ≡ true → within 12 (length c) m ≡ true
      → r ≡ all (λ x. eqb x 0) (drop m c) → r ≡ true → s ≡ same_list (take 12 c) (cells fresh) → s ≡ true
      → First c m (set (set (set (replicate 16384 0) 0 1) 1 1) 2 1)
  unfolding clear
  first r s h k e z d y =
      let long = bounds 12 65536 (length c) h in
      let mark = bounds 12 (length c) m k in
      let w = same_list_lem (take 12 c) (cells fresh) (sym d ∙ y) in
      record {
        least = mark.0;
        fits = mark.1;
        zeros = sym e ∙ z;
        below = fresh-below c long.0 long.1 w;
        starts = subst (λ (a : Nodes). Starts a (set (set (set (replicate 16384 0) 0 1) 1 1) 2 1)) (sym (fresh-used c w)) (starts-fresh 16384 (omega arith));
        long = go (replicate 16384 0) (length-replicate {A = ℕ} 16384 0);
      }
    where
      go : (f : List ℕ) → length f ≡ 16384 → 65536 ≤ 4 * length (set (set (set f 0 1) 1 1) 2 1)
      go f e = let a = length-set f 0 1 in let b = length-set (set f 0 1) 1 1 in let d = length-set (set (set f 0 1) 1 1) 2 1 in omega arith
