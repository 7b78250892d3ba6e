-- The tests and the propositions say the same: `well_formed a` and `WF a`, `formed c m` and `IsArena c m`.
use mathlib.Core.Path.{◌≡◌, refl, sym, ap, ◌∙◌, subst}
use Prim.Native.Nat.{ℕ, ◌≤◌}
use native.Mathlib.Omega.{arith}
use mathlib.Core.Bool.{Bool, true, false}
use mathlib.Core.Logic.{◌⊎◌, inl, inr}
use mathlib.Core.Option.{Option, none, some}
use mathlib.Core.List.{List, [], ◌∷◌}
use lib.ListN.{length, take}
use lib.Seq.{length-take-le}
use borrow.Author.Tests.{leb-true, le-leb}
use Rattle.arena.specs.Lists.{every, all, same_list}
use Rattle.arena.specs.Nodes.{Node, node, Nodes, mark, over, node_at, positions, same, find, fresh}
use Rattle.arena.specs.Cells.{cells, parse, used}
use Rattle.arena.specs.WellFormed.{fewest, most, placed, type_test, maker_test, kind_test, good_node, is_fresh, starts_fresh, good_nodes, absent, distinct, well_formed, filled, formed, Below, IsArena}
use Rattle.arena.proofs.Bools.{t≢f, or_right, or_cases, both_ways, every-all, all-every}
use Rattle.arena.proofs.Ext.{Ext, ext_same, ext_more, mark-fresh, mark_ext}
use Rattle.arena.proofs.Chain.{Chain, nil, link, WF, link_is}
use Rattle.arena.proofs.Put.{same-node}
use Rattle.arena.proofs.Flat.{length-cells, cells-parse}

-- ---- an arena

pub absent_none : (a : Nodes) (n : Node) → absent a n ≡ true → find a n ≡ none
unfolding absent
absent_none a n e = go (find a n) refl
  where
    go : (f : Option ℕ) → find a n ≡ f → find a n ≡ none
    go none q = q
    go (some p) q = t≢f (sym e ∙ rw (q, absent))

pub none_absent : (a : Nodes) (n : Node) → find a n ≡ none → absent a n ≡ true
unfolding absent
none_absent a n e = rw (e, absent)

fresh_eq : (a : Nodes) → is_fresh a ≡ true → a ≡ fresh
unfolding is_fresh
fresh_eq [] e = t≢f (sym e)
fresh_eq (x ∷ []) e = t≢f (sym e)
fresh_eq (x ∷ y ∷ []) e = t≢f (sym e)
fresh_eq (x ∷ y ∷ z ∷ []) e =
    let w = every-all _ e in
    λ i. same-node x (node 16 0 1 []) w.0 i ∷ same-node y (node 16 0 0 []) w.1.0 i ∷ same-node z (node 1 0 0 []) w.1.1.0 i ∷ []
fresh_eq (x ∷ y ∷ z ∷ u ∷ r) e = t≢f (sym e)

-- the three stand first
pub starts_ext : (a : Nodes) → starts_fresh a ≡ true → Ext fresh a
unfolding starts_fresh
starts_ext [] e = t≢f (sym e)
starts_ext (n ∷ a) e = go (λ h. starts_ext a h) (or_cases (is_fresh (n ∷ a)) (starts_fresh a) e)
  where
    go : (starts_fresh a ≡ true → Ext fresh a) → (is_fresh (n ∷ a) ≡ true) ⊎ (starts_fresh a ≡ true) → Ext fresh (n ∷ a)
    go ih (inl h) = subst (Ext fresh) (sym (fresh_eq (n ∷ a) h)) ext_same
    go ih (inr h) = ext_more n (ih h)

pub ext_starts : {a : Nodes} → Ext fresh a → starts_fresh a ≡ true
unfolding starts_fresh
ext_starts ext_same = unfold is_fresh every same same_list in refl
ext_starts (ext_more {b = a} n e) = or_right (is_fresh (n ∷ a)) (starts_fresh a) (ext_starts e)

pub tests_chain : (a : Nodes) → good_nodes a ≡ true → distinct a ≡ true → Chain a
unfolding good_nodes distinct
tests_chain [] g d = nil
tests_chain (n ∷ a) g d =
    let w = every-all _ g in let v = every-all _ d in
    link (tests_chain a w.1.0 v.1.0) w.0 (absent_none a n v.0)

pub chain_tests : {a : Nodes} → Chain a → (good_nodes a ≡ true) × (distinct a ≡ true)
unfolding good_nodes distinct
chain_tests nil = (refl, refl)
chain_tests (link {a = a} {n = n} c g f) =
    let r = chain_tests c in
    (all-every _ (g, (r.0, tt)), all-every _ (none_absent a n f, (r.1, tt)))

pub test_wf : (a : Nodes) → well_formed a ≡ true → WF a
unfolding well_formed
test_wf a e = let w = every-all _ e in record { base = starts_ext a w.0; chain = tests_chain a w.1.0 w.1.1.0 }

pub wf_test : {a : Nodes} → WF a → well_formed a ≡ true
unfolding well_formed
wf_test w = let r = chain_tests w.chain in all-every _ (ext_starts w.base, (r.0, (r.1, tt)))

pub fresh_wf : WF fresh
unfolding good_node placed kind_test type_test maker_test every all positions node_at over mark find same same_list
fresh_wf = record { base = ext_same; chain = link (link (link nil refl refl) refl refl) refl refl }

-- ---- lent cells and a mark

pub used_is : (c : List ℕ) (m : ℕ) (a : Nodes) → parse (take m c) ≡ some a → used c m ≡ a
unfolding used
used_is c m a e = rw (e, used)

filled-reads : (c : List ℕ) (m : ℕ) → filled c m ≡ true → parse (take m c) ≡ some (used c m)
unfolding filled
filled-reads c m e = go (parse (take m c)) refl
  where
    go : (o : Option Nodes) → parse (take m c) ≡ o → parse (take m c) ≡ some (used c m)
    go none q = t≢f (sym e ∙ rw (q, filled))
    go (some a) q = q ∙ ap some (sym (used_is c m a q))

reads-filled : (c : List ℕ) (m : ℕ) → parse (take m c) ≡ some (used c m) → filled c m ≡ true
unfolding filled
reads-filled c m e = rw (e, filled)

-- what is known of the cells below a mark
module _ {c : List ℕ} {m : ℕ} (B : Below c m) where
  pub wf : WF (used c m)
  wf = test_wf (used c m) B.well

  pub cells_are : cells (used c m) ≡ take m c
  cells_are = cells-parse (take m c) (used c m) B.reads

  pub mark_is : mark (used c m) ≡ m
  mark_is = sym (length-cells (used c m)) ∙ ap length cells_are ∙ length-take-le m c B.fits

-- it is enough that the nodes are well formed and fit
pub below_of : (c : List ℕ) (m : ℕ) (a : Nodes) → m ≤ length c → length c ≤ most → parse (take m c) ≡ some a → WF a → Below c m
below_of c m a f s p w =
    let u = used_is c m a p in
    record { least = least; fits = f; short = s; reads = p ∙ ap some (sym u); well = ap well_formed u ∙ wf_test w }
  where
    least : fewest ≤ m
    least =
        let x = mark_ext w.base in let y = mark-fresh in
        let z : mark a ≡ m = sym (length-cells a) ∙ ap length (cells-parse (take m c) a p) ∙ length-take-le m c f in
        omega arith

pub formed-arena : (c : List ℕ) (m : ℕ) → formed c m ≡ true → IsArena c m
unfolding formed
formed-arena c m e =
    let w = every-all _ e in
    let l = every-all _ w.0 in
    record {
      below = below_of c m (used c m) (leb-true _ _ w.1.0) (leb-true _ _ l.1.0) (filled-reads c m w.1.1.0) (test_wf (used c m) w.1.1.1.0);
      zeros = w.1.1.1.1.0;
    }

pub arena-formed : (c : List ℕ) (m : ℕ) → IsArena c m → formed c m ≡ true
unfolding formed
arena-formed c m A =
    let B = A.below in
    all-every _ (
      all-every _ (le-leb 12 (length c) (let x = B.least in let y = B.fits in omega arith), (le-leb (length c) 65536 B.short, tt)),
      (le-leb m (length c) B.fits, (reads-filled c m B.reads, (B.well, (A.zeros, tt)))),
    )

-- where what every arena has fails, the test fails
pub not_formed : (c : List ℕ) (m : ℕ) → (IsArena c m → ⊥) → false ≡ formed c m
not_formed c m f = go (formed c m) refl
  where
    go : (b : Bool) → formed c m ≡ b → false ≡ formed c m
    go false e = sym e
    go true e = absurd (f (formed-arena c m e))

-- with one node more
pub next-formed : {a : Nodes} → WF a → (n : Node) → well_formed (n ∷ a) ≡ every (good_node a n ∷ absent a n ∷ [])
next-formed {a} w n =
    both_ways (well_formed (n ∷ a)) (every (good_node a n ∷ absent a n ∷ []))
    (λ h. let l = link_is (test_wf (n ∷ a) h).chain in all-every _ (l.0, (none_absent a n l.1, tt)))
    (λ h. let v = every-all _ h in wf_test (record { base = ext_more n w.base; chain = link w.chain v.0 (absent_none a n v.1.0) }))
