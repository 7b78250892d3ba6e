-- A node is above its members, so one with the same cells is above the last of them: the search for it may begin there.
use mathlib.Core.Path.{◌≡◌, refl, sym, ap, ◌∙◌, subst}
use Prim.Native.Nat.{ℕ, zero, suc, ◌+◌, ◌*◌, ◌%◌, ◌/◌, ◌≤◌, ◌<◌}
use native.Mathlib.Omega.{arith}
use mathlib.Core.Bool.{Bool, true, false}
use mathlib.Core.Option.{Option, none, some}
use mathlib.Core.List.{List}
use mathlib.Core.Logic.{◌⊎◌, inl, inr}
use lib.ListN.{length, get_or, drop}
use lib.Seq.{get_or-take, get_or-drop}
use lib.Dec.{eqb, ltb}
use borrow.Author.Tests.{eqb-true, eqb-false, leb-true, ltb-true}
use Rattle.arena.specs.Lists.{all, odds}
use Rattle.arena.specs.Nodes.{Node, Nodes, mark, kind_at, args, find}
use Rattle.arena.specs.Cells.{used, node_here, after}
use Rattle.arena.specs.WellFormed.{good_node, kind_test, type_test, maker_test, field_run, Below}
use Rattle.arena.proofs.Bools.{every-all}
use Rattle.arena.proofs.Runs.{all_get, odds-length, odds-at}
use Rattle.arena.proofs.Ext.{ext_older, kind-known}
use Rattle.arena.proofs.Chain.{Chain, starts, place, good_args, args-below}
use Rattle.arena.proofs.Put.{find_sound}
use Rattle.arena.proofs.View.{args-plain, args_fields, tested, good_pos}
use Rattle.arena.proofs.Formed.{wf, mark_is}
use Rattle.arena.proofs.Tiling.{here-count}
use Rattle.arena.proofs.Scan.{Scan, scan_start}

-- x is one of the positions that a node names
record Names (n : Node) (x : ℕ) : Type 0 where
  at : ℕ
  within : at < length (args n)
  is : get_or (args n) at 0 ≡ x

-- no node below x names x
none_below : {o : Nodes} → Chain o → (n : Node) (x : ℕ) → 1 ≤ n.kind → Names n x → mark o ≤ x → find o n ≡ none
none_below {o} c n x k N m = go (find o n) refl
  where
    go : (r : Option ℕ) → find o n ≡ r → r ≡ none
    go none e = refl
    go (some p) e =
        let s = find_sound o n p e in
        let b = args-below c p (subst (λ (l : Node). 1 ≤ l.kind) (sym s.1) k) in
        let h = all_get (λ y. ltb y p) (args n) (subst (λ (l : Node). all (λ y. ltb y p) (args l) ≡ true) s.1 b) N.at N.within in
        let l = ltb-true (get_or (args n) N.at 0) p h in
        let q = N.is in let z = s.0 in
        absurd (omega arith)

-- fields come in pairs
even : (a : Nodes) (n : Node) → good_node a n ≡ true → (n.kind ≡ 5) ⊎ (n.kind ≡ 21) → length n.mem % 2 ≡ 0
unfolding kind_test type_test maker_test field_run
even a n g (inl e) =
    let t = subst (λ (k : ℕ). kind_test a k n.type n.par n.mem (get_or n.mem 0 0) (get_or n.mem 1 0) (get_or n.mem 2 0) ≡ true) e (tested a n g) in
    eqb-true _ _ (every-all _ (every-all _ t).1.1.0).0
even a n g (inr e) =
    let t = subst (λ (k : ℕ). kind_test a k n.type n.par n.mem (get_or n.mem 0 0) (get_or n.mem 1 0) (get_or n.mem 2 0) ≡ true) e (tested a n g) in
    eqb-true _ _ (every-all _ (every-all _ t).0).0

-- the last member is one of them
module _ (a : Nodes) (n : Node) (g : good_node a n ≡ true) (i : ℕ) (l : length n.mem ≡ i + 1) where
  plain : (n.kind ≡ 5 → ⊥) → (n.kind ≡ 21 → ⊥) → Names n (get_or n.mem i 0)
  plain h k =
      let e = args-plain n h k in
      record { at = i; within = subst (λ (r : List ℕ). i < length r) (sym e) (omega arith); is = ap (λ (r : List ℕ). get_or r i 0) e }

  paired : (n.kind ≡ 5) ⊎ (n.kind ≡ 21) → Names n (get_or n.mem i 0)
  paired h =
      let e = args_fields n h in
      let v = even a n g h in
      let w = odds-length n.mem in
      let j = i / 2 in
      let near : j < length (odds n.mem) = omega arith in
      let place : 2 * j + 1 ≡ i = omega arith in
      record {
        at = j;
        within = subst (λ (r : List ℕ). j < length r) (sym e) near;
        is = ap (λ (r : List ℕ). get_or r j 0) e ∙ odds-at n.mem j near ∙ ap (λ (m : ℕ). get_or n.mem m 0) place;
      }

  last_named : Names n (get_or n.mem i 0)
  last_named = go (eqb n.kind 5) (eqb n.kind 21) refl refl
    where
      go : (b d : Bool) → eqb n.kind 5 ≡ b → eqb n.kind 21 ≡ d → Names n (get_or n.mem i 0)
      go true d e f = paired (inl (eqb-true _ _ e))
      go false true e f = paired (inr (eqb-true _ _ f))
      go false false e f = plain (eqb-false _ _ e) (eqb-false _ _ f)

-- a search for a node that names x may begin at x
from_named : {c : List ℕ} {m : ℕ} → Below c m → (n : Node) (x : ℕ) → good_node (used c m) n ≡ true → Names n x → Scan c m n x × (x ≤ m)
from_named {c} {m} B n x g N =
    let s = all_get (starts (used c m)) (args n) (good_args (used c m) n g) N.at N.within in
    let h : 1 ≤ kind_at (used c m) x = subst (λ (y : ℕ). 1 ≤ kind_at (used c m) y) N.is (leb-true _ _ s) in
    let p = place (wf B).chain x h in
    let b = kind-known (used c m) x h in let z = mark_is B in let w = p.here in (
      record { seen = p.older; ext = ext_older p.ext; at = p.here; not_yet = none_below p.chain n x (good_pos _ n g) N (omega arith) },
      omega arith,
    )

-- of the node at q: from its last member on, or from the first node
pub from_last : {c : List ℕ} {q : ℕ} → Below c q → after c q ≤ length c → good_node (used c q) (node_here c q) ≡ true
    → Scan c q (node_here c q) (get_or c (q + 3 + get_or c (q + 3) 0) 0) × (get_or c (q + 3 + get_or c (q + 3) 0) 0 ≤ q)
unfolding node_here
from_last {c} {q} B f g = go (get_or c (q + 3) 0) refl
  where
    key : Node
    key = node_here c q

    go : (n : ℕ) → get_or c (q + 3) 0 ≡ n → Scan c q (node_here c q) (get_or c (q + 3 + n) 0) × (get_or c (q + 3 + n) 0 ≤ q)
    go zero e =
        let first : get_or c (q + 3 + 0) 0 ≡ 0 = ap (λ (i : ℕ). get_or c i 0) (omega arith) ∙ e in
        subst (λ (x : ℕ). Scan c q (node_here c q) x × (x ≤ q)) (sym first) (scan_start c q key, omega arith)
    go (suc i) e =
        let l = here-count c q f in
        let is : get_or (node_here c q).mem i 0 ≡ get_or c (q + 3 + suc i) 0 =
        get_or-take (get_or c (q + 3) 0) (drop (q + 4) c) i 0 (omega arith) ∙ get_or-drop (q + 4) c i 0 ∙ ap (λ (j : ℕ). get_or c j 0) (omega arith)
        in
        subst (λ (x : ℕ). Scan c q (node_here c q) x × (x ≤ q)) is (from_named B key (get_or key.mem i 0) g (last_named (used c q) key g i (omega arith)))
