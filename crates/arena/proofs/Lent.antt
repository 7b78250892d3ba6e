-- Arrays lent to a walk: how they start, what an entry more says, and what an entry says of the cells.
use mathlib.Core.Path.{◌≡◌, refl, sym, ap, ◌∙◌, subst}
use Prim.Native.Nat.{ℕ, zero, suc, ◌+◌, ◌*◌, ◌/◌, ◌%◌, ◌≤◌, ◌<◌}
use native.Mathlib.Omega.{arith}
use mathlib.Core.Bool.{Bool, true, false}
use mathlib.Core.List.{List, [], ◌∷◌}
use lib.ListN.{length, get_or, set, replicate, length-set, length-replicate, get_or-replicate}
use lib.Seq.{get_or-set_same, get_or-set_other}
use lib.Dec.{eqb, leb}
use borrow.Author.Tests.{eqb-true, eqb-false, leb-true, leb-false}
use Rattle.arena.specs.Nodes.{Node, node, Nodes, mark, kind_at, fresh}
use Rattle.arena.specs.Cells.{used, node_here, after}
use Rattle.arena.specs.WellFormed.{fewest, good_node, Below}
use Rattle.arena.specs.Lent.{Starts, Sure}
use Rattle.arena.proofs.Bools.{t≢f}
use Rattle.arena.proofs.Ext.{mark_nil, mark-cons, mark_more, node_new, node_old, kind-known}
use Rattle.arena.proofs.Chain.{no_node}
use Rattle.arena.proofs.View.{good_pos}
use Rattle.arena.proofs.Known.{B}
use Rattle.arena.proofs.Formed.{mark_is}
use Rattle.arena.proofs.Read.{old_kind, room, slot_own}
use Rattle.arena.proofs.Tiling.{here-count, used_more}

pub get_far : (l : List ℕ) (i : ℕ) → length l ≤ i → get_or l i 0 ≡ 0
get_far [] i h = refl
get_far (x ∷ l) zero h = absurd (omega arith)
get_far (x ∷ l) (suc i) h = get_far l i (omega arith)

zeros_get : (n i : ℕ) → ◌≡◌ {A = ℕ} (get_or (replicate n 0) i 0) 0
zeros_get n i = go (leb n i) refl
  where
    go : (b : Bool) → leb n i ≡ b → ◌≡◌ {A = ℕ} (get_or (replicate n 0) i 0) 0
    go true e = get_far (replicate n 0) i (let x = length-replicate {A = ℕ} n 0 in let y = leb-true n i e in omega arith)
    go false e = get_or-replicate n i 0 0 (leb-false n i e)

-- ---- where nodes start

pub starts_none : (n : ℕ) → Starts [] (replicate n 0)
starts_none n = record {
  long = let z = mark_nil in omega arith;
  yes = λ p k. no_node p k;
  no = λ p e. let z = zeros_get n (p / 4) in absurd (omega arith);
}

pub starts_more : {a : Nodes} {f : List ℕ} (n : Node) → Starts a f → 1 ≤ n.kind → mark (n ∷ a) ≤ 4 * length f → Starts (n ∷ a) (set f (mark a / 4) (mark a % 4 + 1))
starts_more {a} {f} n S k l = record {
  long = let x = length-set f (mark a / 4) (mark a % 4 + 1) in omega arith;
  yes = λ p h. yes' p h (eqb p (mark a)) refl;
  no = λ p e. no' p e (eqb (p / 4) (mark a / 4)) refl;
}
  where
    slot : mark a / 4 < length f
    slot = let x = mark_more n a in omega arith

    yes' : (p : ℕ) → 1 ≤ kind_at (n ∷ a) p → (b : Bool) → eqb p (mark a) ≡ b → get_or (set f (mark a / 4) (mark a % 4 + 1)) (p / 4) 0 ≡ p % 4 + 1
    yes' p h true i =
        let e = eqb-true p (mark a) i in
        ap (λ (x : ℕ). get_or (set f (mark a / 4) (mark a % 4 + 1)) (x / 4) 0) e ∙ get_or-set_same f (mark a / 4) (mark a % 4 + 1) 0 slot ∙ ap (λ (x : ℕ). x % 4 + 1) (sym e)
    yes' p h false i =
        let o = old_kind n a p i h in
        let r = room a p o in
        get_or-set_other f (mark a / 4) (p / 4) (mark a % 4 + 1) 0 (λ z. omega arith) ∙ S.yes p o

    no' : (p : ℕ) → get_or (set f (mark a / 4) (mark a % 4 + 1)) (p / 4) 0 ≡ p % 4 + 1 → (b : Bool) → eqb (p / 4) (mark a / 4) ≡ b → 1 ≤ kind_at (n ∷ a) p
    no' p e true i =
        let x = eqb-true (p / 4) (mark a / 4) i in
        let v : mark a % 4 + 1 ≡ p % 4 + 1 =
        sym (get_or-set_same f (mark a / 4) (mark a % 4 + 1) 0 slot) ∙ ap (λ (j : ℕ). get_or (set f (mark a / 4) (mark a % 4 + 1)) j 0) (sym x) ∙ e in
        let at : p ≡ mark a = omega arith in
        subst (λ (m : Node). 1 ≤ m.kind) (sym (node_new n a p at)) k
    no' p e false i =
        let o = S.no p (sym (get_or-set_other f (mark a / 4) (p / 4) (mark a % 4 + 1) 0 (eqb-false (p / 4) (mark a / 4) i)) ∙ e) in
        let b = kind-known a p o in
        subst (λ (m : Node). 1 ≤ m.kind) (sym (node_old n a p (λ z. omega arith))) o

-- the three that stand first
pub starts-fresh : (n : ℕ) → fewest ≤ 4 * n → Starts fresh (set (set (set (replicate n 0) 0 1) 1 1) 2 1)
unfolding mark
starts-fresh n h =
    let f : List ℕ = replicate n 0 in
    let l0 = length-replicate {A = ℕ} n 0 in
    let l1 = length-set f 0 1 in
    let l2 = length-set (set f 0 1) 1 1 in
    let s1 : Starts (node 1 0 0 [] ∷ []) (set f 0 1) = starts_more (node 1 0 0 []) (starts_none n) (omega arith) (omega arith) in
    let s2 : Starts (node 16 0 0 [] ∷ node 1 0 0 [] ∷ []) (set (set f 0 1) 1 1) = starts_more (node 16 0 0 []) s1 (omega arith) (omega arith) in
    starts_more (node 16 0 1 []) s2 (omega arith) (omega arith)

-- one node more is read
pub next-starts : {c : List ℕ} {q : ℕ} {f : List ℕ} → Below c q → after c q ≤ length c → good_node (used c q) (node_here c q) ≡ true
    → Starts (used c q) f → after c q ≤ 4 * length f → Starts (used c (after c q)) (set f (q / 4) (q % 4 + 1))
next-starts {c} {q} {f} B h g S l =
    let M = mark_is B in
    let u = used_more B h in
    let m = mark-cons (node_here c q) (used c q) in
    let n = here-count c q h in
    let T : Starts (node_here c q ∷ used c q) (set f (mark (used c q) / 4) (mark (used c q) % 4 + 1)) =
    starts_more (node_here c q) S (good_pos (used c q) (node_here c q) g) (omega arith) in
    subst (λ (x : ℕ). Starts (used c (after c q)) (set f (x / 4) (x % 4 + 1))) M
    (subst (λ (a : Nodes). Starts a (set f (mark (used c q) / 4) (mark (used c q) % 4 + 1))) (sym u) T)

-- ---- what the entry of p says of the cells below q

zero_of : (n : ℕ) → (1 ≤ n → ⊥) → n ≡ 0
zero_of zero h = refl
zero_of (suc n) h = absurd (h (omega arith))

module _ {c : List ℕ} {q : ℕ} {f : List ℕ} (B : Below c q) (S : Starts (used c q) f) (p : ℕ) where
  pub far : q ≤ p → kind_at (used c q) p ≡ 0
  far h = zero_of (kind_at (used c q) p) (λ k. let x = kind-known (used c q) p k in let y = mark_is B in omega arith)

  pub slot : p < q → p / 4 < length f
  slot h = let x = S.long in let y = mark_is B in omega arith

  pub no_start : (get_or f (p / 4) 0 ≡ p % 4 + 1 → ⊥) → kind_at (used c q) p ≡ 0
  no_start h = zero_of (kind_at (used c q) p) (λ k. h (S.yes p k))

-- ---- what is sure

unset_get : (n i : ℕ) → get_or (replicate n false) i false ≡ false
unset_get zero i = refl
unset_get (suc n) zero = refl
unset_get (suc n) (suc i) = unset_get n i

module _ {a : Nodes} {test : ℕ → Bool} where
  pub sure_slot : {f : List Bool} → Sure a test f → (p : ℕ) → 1 ≤ kind_at a p → p / 4 < length f
  sure_slot K p h = let x = K.long in let y = room a p h in omega arith

  pub sure_more : {f : List Bool} → Sure a test f → (p : ℕ) → 1 ≤ kind_at a p → test p ≡ true → Sure a test (set f (p / 4) true)
  sure_more {f} K p h s = record {
    long = let x = K.long in rw length-set x;
    holds = λ q k e. go q k e (eqb (q / 4) (p / 4)) refl;
  }
    where
      go : (q : ℕ) → 1 ≤ kind_at a q → get_or (set f (p / 4) true) (q / 4) false ≡ true → (b : Bool) → eqb (q / 4) (p / 4) ≡ b → test q ≡ true
      go q k e true i = subst (λ (x : ℕ). test x ≡ true) (sym (slot_own a q p k h (eqb-true (q / 4) (p / 4) i))) s
      go q k e false i = K.holds q k (sym (get_or-set_other f (p / 4) (q / 4) true false (eqb-false (q / 4) (p / 4) i)) ∙ e)

  pub sure_none : (n : ℕ) → mark a ≤ 4 * n → Sure a test (replicate n false)
  sure_none n h = record {
    long = let x = length-replicate {A = Bool} n false in omega arith;
    holds = λ p k e. t≢f (sym e ∙ unset_get n (p / 4));
  }
