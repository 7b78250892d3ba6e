-- Printing and parsing of cells: each undoes the other, and the cells of a node stand where the node starts.
use mathlib.Core.Path.{◌≡◌, refl, sym, ap, ap₂, ◌∙◌, subst}
use Prim.Native.Nat.{ℕ, zero, suc, ◌+◌, ◌≤◌, ◌<◌}
use native.Mathlib.Omega.{arith}
use mathlib.Core.Option.{some}
use mathlib.Core.List.{List, [], ◌∷◌, ◌++◌, append_assoc, append-nil}
use lib.ListN.{length, take, drop, get_or, length-append, take-append-drop, get_or-append}
use lib.Seq.{length-take-le, get_or-append-add, take_at}
use Rattle.arena.specs.Nodes.{node, Nodes, mark, node_at, kind_at}
use Rattle.arena.specs.Cells.{cells_of, cells, parse_on, parse}
use Rattle.arena.proofs.Bools.{none≢some}
use Rattle.arena.proofs.Ext.{Ext, ext_same, ext_more, ext_older}
use Rattle.arena.proofs.Chain.{Chain, place}

pub length-cells : (a : Nodes) → length (cells a) ≡ mark a
unfolding cells mark
length-cells [] = refl
length-cells (n ∷ a) = length-append (cells a) (cells_of n) ∙ ap₂ ◌+◌ (length-cells a) (omega arith)

-- ---- the cells of an arena parse to it

-- the walk steps over the members of the node just read
skip : (a : Nodes) (ms r : List ℕ) → parse_on a (length ms) (ms ++ r) ≡ parse_on a 0 r
unfolding parse_on
skip a [] r = refl
skip a (x ∷ ms) r = skip a ms r

-- reading the cells of a, then more
pub parse_on_lem : (b a : Nodes) (r : List ℕ) → parse_on b 0 (cells a ++ r) ≡ parse_on (a ++ b) 0 r
unfolding cells
parse_on_lem b [] r = refl
parse_on_lem b (n ∷ a) r =
    ap (parse_on b 0) (append_assoc (cells a) (cells_of n) r)
    ∙ parse_on_lem b a (cells_of n ++ r)
    ∙ read
  where
    read : parse_on (a ++ b) 0 (cells_of n ++ r) ≡ parse_on (n ∷ (a ++ b)) 0 r
    read = unfold parse_on in
        ap (λ (l : List ℕ). parse_on (node n.kind n.type n.par l ∷ (a ++ b)) (length n.mem) (n.mem ++ r)) (take_at n.mem r (length n.mem) refl)
        ∙ skip (n ∷ (a ++ b)) n.mem r

pub parse-cells : (a : Nodes) → parse (cells a) ≡ some a
unfolding parse
parse-cells a =
    ap (parse_on [] 0) (sym (append-nil (cells a)))
    ∙ parse_on_lem [] a []
    ∙ unfold parse_on in ap some (append-nil a)

-- ---- cells that parse are the cells of what they parse to

-- the cells to step over are there
pub parse-fits : (c : List ℕ) (a b : Nodes) (s : ℕ) → parse_on a s c ≡ some b → s ≤ length c
unfolding parse_on
parse-fits c a b zero h = omega arith
parse-fits [] a b (suc s) h = none≢some h
parse-fits (x ∷ c) a b (suc s) h = let k = parse-fits c a b s h in omega arith

pub parse_sound : (c : List ℕ) (a b : Nodes) (s : ℕ) → parse_on a s c ≡ some b → cells b ≡ cells a ++ drop s c
unfolding parse_on cells
parse_sound [] a b zero h = let e : a ≡ b = cc in ap cells (sym e) ∙ sym (append-nil (cells a))
parse_sound (k ∷ []) a b zero h = none≢some h
parse_sound (k ∷ t ∷ []) a b zero h = none≢some h
parse_sound (k ∷ t ∷ p ∷ []) a b zero h = none≢some h
parse_sound (k ∷ t ∷ p ∷ n ∷ c) a b zero h =
    parse_sound c (node k t p (take n c) ∷ a) b n h
    ∙ append_assoc (cells a) (k ∷ t ∷ p ∷ length (take n c) ∷ take n c) (drop n c)
    ∙ ap₂ (λ (m : ℕ) (r : List ℕ). cells a ++ (k ∷ t ∷ p ∷ m ∷ r)) (length-take-le n c (parse-fits c (node k t p (take n c) ∷ a) b n h)) (take-append-drop n c)
parse_sound [] a b (suc s) h = none≢some h
parse_sound (x ∷ c) a b (suc s) h = parse_sound c a b s h

pub cells-parse : (c : List ℕ) (a : Nodes) → parse c ≡ some a → cells a ≡ c
unfolding parse
cells-parse c a h = parse_sound c [] a 0 h ∙ unfold cells in refl

-- parsing only adds nodes
pub parse_ext : (c : List ℕ) (a b : Nodes) (s : ℕ) → parse_on a s c ≡ some b → Ext a b
unfolding parse_on
parse_ext [] a b zero h = let e : a ≡ b = cc in subst (Ext a) e ext_same
parse_ext (k ∷ []) a b zero h = none≢some h
parse_ext (k ∷ t ∷ []) a b zero h = none≢some h
parse_ext (k ∷ t ∷ p ∷ []) a b zero h = none≢some h
parse_ext (k ∷ t ∷ p ∷ n ∷ c) a b zero h = ext_older (parse_ext c (node k t p (take n c) ∷ a) b n h)
parse_ext [] a b (suc s) h = none≢some h
parse_ext (x ∷ c) a b (suc s) h = parse_ext c a b s h

-- ---- the cells of a node

pub ext_cells : {a b : Nodes} → Ext a b → (r : List ℕ) × (cells b ≡ cells a ++ r)
unfolding cells
ext_cells {a} ext_same = ([], sym (append-nil (cells a)))
ext_cells {a} (ext_more {b = b} n e) =
    let h = ext_cells e in
    (h.0 ++ cells_of n, ap (λ (l : List ℕ). l ++ cells_of n) h.1 ∙ append_assoc (cells a) h.0 (cells_of n))

-- from p on, the cells are those of the node there, and then others
node-cells : {a : Nodes} → Chain a → (p : ℕ) → 1 ≤ kind_at a p
    → (o : Nodes) × (r : List ℕ) × (length (cells o) ≡ p) × (cells a ≡ cells o ++ (cells_of (node_at a p) ++ r))
unfolding cells
node-cells {a} c p h =
    let pl = place c p h in
    let e = ext_cells pl.ext in
    (pl.older, e.0, length-cells pl.older ∙ pl.here, e.1 ∙ append_assoc (cells pl.older) (cells_of (node_at a p)) e.0)

-- cell i of the node at p
pub cell_at : {a : Nodes} → Chain a → (p : ℕ) → 1 ≤ kind_at a p → (i : ℕ) → i < length (cells_of (node_at a p))
    → get_or (cells a) (p + i) 0 ≡ get_or (cells_of (node_at a p)) i 0
cell_at {a} c p h i k =
    let n = node-cells c p h in
    ap₂ (λ (l : List ℕ) (q : ℕ). get_or l (q + i) 0) n.3 (sym n.2)
    ∙ get_or-append-add (cells n.0) (cells_of (node_at a p) ++ n.1) i 0
    ∙ get_or-append (cells_of (node_at a p)) n.1 0 i k
