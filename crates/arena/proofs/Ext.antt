-- A longer arena says the same of older positions: their nodes, types, meanings, and the answers of the two walks.
use mathlib.Core.Path.{◌≡◌, refl, sym, ap, ◌∙◌}
use Prim.Native.Nat.{ℕ, ◌+◌, ◌≤◌, ◌<◌}
use native.Mathlib.Nat.{le_refl}
use native.Mathlib.Omega.{arith}
use mathlib.Core.Bool.{Bool, true, false}
use mathlib.Core.List.{List, [], ◌∷◌}
use lib.Dec.{leb}
use borrow.Author.Tests.{eq-eqb, ne_eqb, leb-true, leb-false}
use Rattle.arena.specs.Nodes.{Node, node, nowhere, Nodes, size, mark, over, node_at, kind_at, type_at, par_at, mem_at, fresh}
use Rattle.arena.specs.Walks.{Verdict, ruled, walked}
use Rattle.arena.specs.WellFormed.{fewest}
use Rattle.arena.specs.Values.{tbool, vnone}
use Rattle.arena.specs.Meaning.{ty_node, ty_of, Interp, mean_node, meaning}

-- the second arena is the first with newer nodes in front
pub data Ext (a : Nodes) : Nodes → Type 0 where
  ext_same : Ext a a
  ext_more : {b : Nodes} (n : Node) → Ext a b → Ext a (n ∷ b)

pub ext_trans : {a b c : Nodes} → Ext a b → Ext b c → Ext a c
ext_trans e ext_same = e
ext_trans e (ext_more n f) = ext_more n (ext_trans e f)

pub ext_one : {a : Nodes} {n : Node} → Ext a (n ∷ a)
ext_one {n = n} = ext_more n ext_same

pub ext_older : {a o : Nodes} {n : Node} → Ext (n ∷ o) a → Ext o a
ext_older e = ext_trans ext_one e

pub ext_all : (a : Nodes) → Ext [] a
ext_all [] = ext_same
ext_all (n ∷ a) = ext_more n (ext_all a)

-- ---- marks

pub mark_nil : mark [] ≡ 0
unfolding mark
mark_nil = refl

pub mark-fresh : mark fresh ≡ fewest
unfolding mark
mark-fresh = refl

pub mark-cons : (n : Node) (a : Nodes) → mark (n ∷ a) ≡ mark a + size n
unfolding mark
mark-cons n a = refl

pub mark_more : (n : Node) (a : Nodes) → mark a < mark (n ∷ a)
mark_more n a = let h = mark-cons n a in omega arith

pub mark_ext : {a b : Nodes} → Ext a b → mark a ≤ mark b
mark_ext {a} ext_same = le_refl (mark a)
mark_ext (ext_more {b = b} n e) = let h = mark_ext e in let k = mark_more n b in omega arith

-- ---- any function of positions

module _ {X : Type 0} (d : X) (step : Nodes → (ℕ → X) → Node → X) where
  pub over_new : (n : Node) (a : Nodes) (p : ℕ) → p ≡ mark a → over d step (n ∷ a) p ≡ step a (over d step a) n
  unfolding over
  over_new n a p e = rw (eq-eqb p (mark a) e, over)

  pub over_old : (n : Node) (a : Nodes) (p : ℕ) → (p ≡ mark a → ⊥) → over d step (n ∷ a) p ≡ over d step a p
  unfolding over
  over_old n a p h = rw (ne_eqb p (mark a) h, over)

  pub over_ext : {a b : Nodes} → Ext a b → (p : ℕ) → p < mark a → over d step b p ≡ over d step a p
  over_ext ext_same p h = refl
  over_ext (ext_more {b = b} n e) p h =
      over_old n b p (λ q. let k = mark_ext e in omega arith) ∙ over_ext e p h

  pub over_far : (a : Nodes) (p : ℕ) → mark a ≤ p → over d step a p ≡ d
  unfolding over
  over_far [] p h = refl
  over_far (n ∷ a) p h = let k = mark_more n a in over_old n a p (λ q. omega arith) ∙ over_far a p (omega arith)

-- ---- nodes

pub node_new : (n : Node) (a : Nodes) (p : ℕ) → p ≡ mark a → node_at (n ∷ a) p ≡ n
unfolding node_at
node_new n a p e = over_new nowhere (λ a f n. n) n a p e

pub node_old : (n : Node) (a : Nodes) (p : ℕ) → (p ≡ mark a → ⊥) → node_at (n ∷ a) p ≡ node_at a p
unfolding node_at
node_old n a p h = over_old nowhere (λ a f n. n) n a p h

pub node_ext : {a b : Nodes} → Ext a b → (p : ℕ) → p < mark a → node_at b p ≡ node_at a p
unfolding node_at
node_ext e p h = over_ext nowhere (λ a f n. n) e p h

pub node_far : (a : Nodes) (p : ℕ) → mark a ≤ p → node_at a p ≡ nowhere
unfolding node_at
node_far a p h = over_far nowhere (λ a f n. n) a p h

-- a node starts below the mark
pub kind-known : (a : Nodes) (p : ℕ) → 1 ≤ kind_at a p → p < mark a
kind-known a p h = go (leb (mark a) p) refl
  where
    go : (b : Bool) → leb (mark a) p ≡ b → p < mark a
    go false e = leb-false (mark a) p e
    go true e =
        let k : kind_at a p ≡ 0 = ap (λ (n : Node). n.kind) (node_far a p (leb-true (mark a) p e)) in
        omega arith

-- two nodes are equal where their cells are
pub node_eq : (n : Node) {k t p : ℕ} {ms : List ℕ} → n.kind ≡ k → n.type ≡ t → n.par ≡ p → n.mem ≡ ms → node k t p ms ≡ n
node_eq n e f g h = sym (λ i. record { kind = e i; type = f i; par = g i; mem = h i })

-- the node at p with its kind written
pub node-kind : (a : Nodes) (p k : ℕ) → kind_at a p ≡ k → node_at a p ≡ node k (type_at a p) (par_at a p) (mem_at a p)
node-kind a p k e = λ i. record { kind = e i; type = type_at a p; par = par_at a p; mem = mem_at a p }

-- ---- types, meanings and walks

pub ty_ext : {a b : Nodes} → Ext a b → (p : ℕ) → p < mark a → ty_of b p ≡ ty_of a p
unfolding ty_of
ty_ext e p h = over_ext tbool ty_node e p h

pub meaning_ext : (I : Interp) {a b : Nodes} → Ext a b → (p : ℕ) → p < mark a → meaning I b p ≡ meaning I a p
unfolding meaning
meaning_ext I e p h = over_ext vnone (mean_node I) e p h

pub walked_ext : (r : ℕ → Verdict) {a b : Nodes} → Ext a b → (p : ℕ) → p < mark a → walked r b p ≡ walked r a p
unfolding walked
walked_ext r e p h = over_ext false (ruled r) e p h
