-- Lent cells are their arena's cells and then zeros: the arena and the length say every cell.
use mathlib.Core.Path.{◌≡◌, refl, sym, ap, ap₂, ◌∙◌, subst}
use Prim.Native.Nat.{ℕ, zero, suc, ◌+◌, ◌-◌, ◌≤◌}
use native.Mathlib.Omega.{arith}
use mathlib.Core.Bool.{true}
use mathlib.Core.List.{List, [], ◌∷◌, ◌++◌, append_assoc}
use lib.ListN.{length, take, drop, replicate, length-append, length-drop, length-replicate, take-append-drop}
use lib.Seq.{drop-drop, take_at, drop_at}
use lib.Dec.{eqb}
use borrow.Author.Tests.{eqb-true}
use Rattle.arena.specs.Lists.{all}
use Rattle.arena.specs.Nodes.{Node, Nodes, size, mark, put, fresh}
use Rattle.arena.specs.Cells.{cells_of, cells, padded, parse, used}
use Rattle.arena.specs.WellFormed.{fewest, most, good_node, well_formed, clear, formed, IsArena}
use Rattle.arena.proofs.Bools.{both_ways}
use Rattle.arena.proofs.Runs.{all-at}
use Rattle.arena.proofs.Ext.{mark-fresh, mark-cons}
use Rattle.arena.proofs.Chain.{WF}
use Rattle.arena.proofs.Put.{put_wf}
use Rattle.arena.proofs.Flat.{length-cells, parse-cells}
use Rattle.arena.proofs.Formed.{test_wf, fresh_wf, used_is, wf, cells_are, mark_is, below_of, formed-arena, arena-formed}

zero_list : (l : List ℕ) → all (λ x. eqb x 0) l ≡ true → l ≡ replicate (length l) 0
zero_list [] e = refl
zero_list (x ∷ l) e = let w = all-at (λ x. eqb x 0) x l e in ap₂ ◌∷◌ (eqb-true x 0 w.0) (zero_list l w.1)

list_zero : (n : ℕ) → all (λ x. eqb x 0) (replicate n 0) ≡ true
unfolding all
list_zero zero = refl
list_zero (suc n) = list_zero n

drop-zeros : (i n : ℕ) → drop {A = ℕ} i (replicate n 0) ≡ replicate (n - i) 0
drop-zeros zero n = ap (λ (k : ℕ). replicate k 0) (let z : n ≡ n - 0 = omega arith in z)
drop-zeros (suc i) zero = ap (λ (k : ℕ). replicate k 0) (let z : 0 ≡ 0 - suc i = omega arith in z)
drop-zeros (suc i) (suc n) = drop-zeros i n ∙ ap (λ (k : ℕ). replicate k 0) (let z : n - i ≡ suc n - suc i = omega arith in z)

-- ---- the cells of an arena

module _ {c : List ℕ} {m : ℕ} (A : IsArena c m) where
  pub arena_tail : drop m c ≡ replicate (length c - m) 0
  unfolding clear
  arena_tail = zero_list (drop m c) A.zeros ∙ ap (λ (n : ℕ). replicate n 0) (length-drop m c)

  pub arena-cells : c ≡ padded (length c) (used c m)
  arena-cells =
      sym (take-append-drop m c)
      ∙ ap₂ ◌++◌ (sym (cells_are A.below)) (arena_tail ∙ ap (λ (n : ℕ). replicate (length c - n) 0) (sym (mark_is A.below)))

-- ---- the arena of padded cells

module _ (n : ℕ) (a : Nodes) (f : mark a ≤ n) where
  pub padded-length : length (padded n a) ≡ n
  padded-length =
      let x = length-append (cells a) (replicate (n - mark a) 0) in
      let y = length-cells a in
      let z = length-replicate {A = ℕ} (n - mark a) 0 in
      omega arith

  pub padded-take : take (mark a) (padded n a) ≡ cells a
  padded-take = take_at (cells a) (replicate (n - mark a) 0) (mark a) (length-cells a)

  pub padded-used : used (padded n a) (mark a) ≡ a
  padded-used = used_is (padded n a) (mark a) a (ap parse padded-take ∙ parse-cells a)

  pub padded-arena : WF a → n ≤ most → IsArena (padded n a) (mark a)
  unfolding clear
  padded-arena w h = record {
    below = below_of (padded n a) (mark a) a (let x = padded-length in omega arith) (let x = padded-length in omega arith) (ap parse padded-take ∙ parse-cells a) w;
    zeros = ap (all (λ x. eqb x 0)) (drop_at (cells a) (replicate (n - mark a) 0) (mark a) (length-cells a)) ∙ list_zero (n - mark a);
  }

-- ---- a node written at the mark

module _ {c : List ℕ} {m : ℕ} (A : IsArena c m) (n : Node) (f : m + size n ≤ length c) where
  rest : drop (m + size n) c ≡ replicate (length c - mark (n ∷ used c m)) 0
  rest =
      let x = mark-cons n (used c m) in let y = mark_is A.below in
      sym (drop-drop (size n) m c)
      ∙ ap (drop (size n)) (arena_tail A)
      ∙ drop-zeros (size n) (length c - m)
      ∙ ap (λ (k : ℕ). replicate k 0) (let z : length c - m - size n ≡ length c - mark (n ∷ used c m) = omega arith in z)

  pub added_cells : take m c ++ (cells_of n ++ drop (m + size n) c) ≡ padded (length c) (n ∷ used c m)
  unfolding cells
  added_cells =
      sym (append_assoc (take m c) (cells_of n) (drop (m + size n) c))
      ∙ ap₂ (λ (l r : List ℕ). (l ++ cells_of n) ++ r) (sym (cells_are A.below)) rest

-- the test on padded cells is the test on the arena
pub padded-formed : (n : ℕ) (a : Nodes) → mark a ≤ n → n ≤ most → formed (padded n a) (mark a) ≡ well_formed a
padded-formed n a f h =
    both_ways (formed (padded n a) (mark a)) (well_formed a)
    (λ e. sym (ap well_formed (padded-used n a f)) ∙ (formed-arena (padded n a) (mark a) e).below.well)
    (λ e. arena-formed (padded n a) (mark a) (padded-arena n a f (test_wf a e) h))

-- found or added, in lent cells that have room
pub put-arena : {c : List ℕ} {m : ℕ} (A : IsArena c m) (n : Node) → good_node (used c m) n ≡ true → mark (put (used c m) n).arena ≤ length c
    → IsArena (padded (length c) (put (used c m) n).arena) (mark (put (used c m) n).arena)
put-arena {c} {m} A n g f = padded-arena (length c) (put (used c m) n).arena f (put_wf (wf A.below) n g) A.below.short

-- ---- a fresh arena, and cells set back

pub fresh_cells : cells fresh ≡ 1 ∷ 0 ∷ 0 ∷ 0 ∷ 16 ∷ 0 ∷ 0 ∷ 0 ∷ 16 ∷ 0 ∷ 1 ∷ 0 ∷ []
unfolding cells
fresh_cells = refl

pub fresh-arena : (n : ℕ) → fewest ≤ n → n ≤ most → IsArena (padded n fresh) fewest
fresh-arena n l h = let m = mark-fresh in subst (IsArena (padded n fresh)) m (padded-arena n fresh (omega arith) fresh_wf h)

-- zeros from the mark on give the cells back
pub arena-cleared : {c : List ℕ} {m : ℕ} → IsArena c m → take m c ++ replicate (length c - m) 0 ≡ c
arena-cleared {c} {m} A = ap (λ (l : List ℕ). take m c ++ l) (sym (arena_tail A)) ∙ take-append-drop m c
