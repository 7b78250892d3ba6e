-- What the flat cells say of a node: it stands in them, number by number.
use mathlib.Core.Path.{◌≡◌, refl, sym, ap, ◌∙◌, subst}
use Prim.Native.Nat.{ℕ, suc, ◌+◌, ◌*◌, ◌/◌, ◌≤◌, ◌<◌}
use native.Mathlib.Nat.{add-zero}
use native.Mathlib.Omega.{arith}
use mathlib.Core.Bool.{Bool, true, false}
use mathlib.Core.List.{List, [], ◌∷◌}
use lib.ListN.{length, take, drop, get_or, length-drop}
use lib.Seq.{get_or-take, get_or-drop, length-take-le, ext_get_or}
use lib.Dec.{eqb, leb}
use borrow.Author.Tests.{eqb-true, eqb-false, leb-true, leb-false}
use Rattle.arena.specs.Lists.{odds}
use Rattle.arena.specs.Nodes.{header, Node, nowhere, Nodes, mark, node_at, kind_at, type_at, par_at, mem_at, paired, positions, args}
use Rattle.arena.specs.Cells.{cells_of, used, node_here, after}
use Rattle.arena.specs.WellFormed.{Below}
use Rattle.arena.proofs.Runs.{odds-length, odds-at}
use Rattle.arena.proofs.Ext.{mark_nil, mark-cons, mark_ext, node_new, node_old, node_far, node_eq}
use Rattle.arena.proofs.Chain.{Chain, nil, link, no_node, place}
use Rattle.arena.proofs.View.{good_pos}
use Rattle.arena.proofs.Flat.{cell_at}
use Rattle.arena.proofs.Formed.{wf, cells_are, mark_is}

-- where a node starts, its cells are read off the arena's
module _ {c : List ℕ} {m : ℕ} (B : Below c m) (p : ℕ) (h : 1 ≤ kind_at (used c m) p) where
  pub node_end : p + (header + length (mem_at (used c m) p)) ≤ m
  node_end =
      let pl = place (wf B).chain p h in
      let x = mark_ext pl.ext in let y = pl.here in let z = mark_is B in let w = mark-cons (node_at (used c m) p) pl.older in
      omega arith

  pub node-fits : p + (header + length (mem_at (used c m) p)) ≤ length c
  node-fits = let x = node_end in let y = B.fits in omega arith

  pub cell : (i : ℕ) → i < header + length (mem_at (used c m) p) → get_or c (p + i) 0 ≡ get_or (cells_of (node_at (used c m) p)) i 0
  cell i l =
      sym (ap (λ (r : List ℕ). get_or r (p + i) 0) (cells_are B) ∙ get_or-take m c (p + i) 0 (let x = node_end in omega arith))
      ∙ cell_at (wf B).chain p h i (omega arith)

  pub read_kind : get_or c p 0 ≡ kind_at (used c m) p
  read_kind = ap (λ (x : ℕ). get_or c x 0) (sym (add-zero p)) ∙ cell 0 (omega arith)

  pub read_type : get_or c (p + 1) 0 ≡ type_at (used c m) p
  read_type = cell 1 (omega arith)

  pub read_par : get_or c (p + 2) 0 ≡ par_at (used c m) p
  read_par = cell 2 (omega arith)

  pub read_count : get_or c (p + 3) 0 ≡ length (mem_at (used c m) p)
  read_count = cell 3 (omega arith)

  pub read_mem : (i : ℕ) → i < length (mem_at (used c m) p) → get_or c (p + (header + i)) 0 ≡ get_or (mem_at (used c m) p) i 0
  read_mem i l =
      let e : header + i ≡ suc (suc (suc (suc i))) = omega arith in
      cell (header + i) (omega arith) ∙ ap (λ (q : ℕ). get_or (cells_of (node_at (used c m) p)) q 0) e

  pub after_end : after c p ≤ m
  after_end = let x = node_end in let y = read_count in omega arith

  pub after-fits : after c p ≤ length c
  after-fits = let x = after_end in let y = B.fits in omega arith

  -- the members are a part of the cells
  pub read_members : take (get_or c (p + 3) 0) (drop (p + header) c) ≡ mem_at (used c m) p
  read_members =
      let k = read_count in let f = after-fits in
      let l : length (take (get_or c (p + 3) 0) (drop (p + header) c)) ≡ get_or c (p + 3) 0 =
      length-take-le (get_or c (p + 3) 0) (drop (p + header) c) (let e = length-drop (p + header) c in omega arith) in
      ext_get_or 0 (take (get_or c (p + 3) 0) (drop (p + header) c)) (mem_at (used c m) p) (l ∙ k)
      (λ i b.
      let b' : i < get_or c (p + 3) 0 = omega arith in
      get_or-take (get_or c (p + 3) 0) (drop (p + header) c) i 0 b' ∙ get_or-drop (p + header) c i 0
      ∙ ap (λ (x : ℕ). get_or c x 0) (let e : p + header + i ≡ p + (header + i) = omega arith in e)
      ∙ read_mem i (omega arith))

  pub here-at : node_here c p ≡ node_at (used c m) p
  unfolding node_here
  here-at = node_eq (node_at (used c m) p) (sym read_kind) (sym read_type) (sym read_par) (sym read_members)

-- the members that are positions: every second one of a run of fields, else all
module _ (n : Node) {k : ℕ} {r : List ℕ} {b : Bool} (e : k ≡ n.kind) (m : r ≡ n.mem) (h : b ≡ paired k) where
  args-odds : b ≡ true → args n ≡ odds r
  unfolding positions
  args-odds t = let f : paired n.kind ≡ true = ap paired (sym e) ∙ sym h ∙ t in rw (f, positions) (ap odds (sym m))

  args-all : b ≡ false → args n ≡ r
  unfolding positions
  args-all t = let f : paired n.kind ≡ false = ap paired (sym e) ∙ sym h ∙ t in rw (f, positions) (sym m)

  pub count-odds : b ≡ true → length r / 2 ≡ length (args n)
  count-odds t = sym (ap length (args-odds t) ∙ odds-length r)

  pub count-all : b ≡ false → length r ≡ length (args n)
  count-all t = sym (ap length (args-all t))

  pub at-odds : b ≡ true → (i : ℕ) → i < length (args n) → get_or r (2 * i + 1) 0 ≡ get_or (args n) i 0
  at-odds t i l =
      let f = args-odds t in
      let l' : i < length (odds r) = rw f at l in
      sym (ap (λ (s : List ℕ). get_or s i 0) f ∙ odds-at r i l')

  pub at_all : b ≡ false → (i : ℕ) → get_or r i 0 ≡ get_or (args n) i 0
  at_all t i = ap (λ (s : List ℕ). get_or s i 0) (sym (args-all t))

-- ---- where no node starts

pub nowhere-at : {a : Nodes} → Chain a → (p : ℕ) → kind_at a p ≡ 0 → node_at a p ≡ nowhere
nowhere-at nil p e = node_far [] p (let z = mark_nil in omega arith)
nowhere-at (link {a = a} {n = n} c g f) p e = go (λ k. nowhere-at c p k) (eqb p (mark a)) refl
  where
    go : (kind_at a p ≡ 0 → node_at a p ≡ nowhere) → (b : Bool) → eqb p (mark a) ≡ b → node_at (n ∷ a) p ≡ nowhere
    go ih true i =
        let x = good_pos a n g in
        let y : n.kind ≡ 0 = sym (ap (λ (m : Node). m.kind) (node_new n a p (eqb-true p (mark a) i))) ∙ e in
        absurd (omega arith)
    go ih false i =
        let o = node_old n a p (eqb-false p (mark a) i) in
        o ∙ ih (sym (ap (λ (m : Node). m.kind) o) ∙ e)

-- ---- nodes stand apart, so a position's quarter is its own

pub old_kind : (n : Node) (a : Nodes) (p : ℕ) → eqb p (mark a) ≡ false → 1 ≤ kind_at (n ∷ a) p → 1 ≤ kind_at a p
old_kind n a p e h = subst (λ (m : Node). 1 ≤ m.kind) (node_old n a p (eqb-false p (mark a) e)) h

pub room : (a : Nodes) (p : ℕ) → 1 ≤ kind_at a p → p + header ≤ mark a
room [] p h = no_node p h
room (n ∷ a) p h = go (λ x. room a p x) (eqb p (mark a)) refl
  where
    go : (1 ≤ kind_at a p → p + header ≤ mark a) → (b : Bool) → eqb p (mark a) ≡ b → p + header ≤ mark (n ∷ a)
    go ih true e = let x = eqb-true p (mark a) e in let y = mark-cons n a in omega arith
    go ih false e = let x = ih (old_kind n a p e h) in let y = mark-cons n a in omega arith

pub apart : (a : Nodes) (p q : ℕ) → 1 ≤ kind_at a p → 1 ≤ kind_at a q → p < q → p + header ≤ q
apart [] p q h k l = no_node p h
apart (n ∷ a) p q h k l = go (λ x y. apart a p q x y l) (eqb p (mark a)) refl (eqb q (mark a)) refl
  where
    go : (1 ≤ kind_at a p → 1 ≤ kind_at a q → p + header ≤ q) → (b : Bool) → eqb p (mark a) ≡ b → (d : Bool) → eqb q (mark a) ≡ d → p + header ≤ q
    go ih true i true j = let x = eqb-true p (mark a) i in let y = eqb-true q (mark a) j in absurd (omega arith)
    go ih true i false j = let x = eqb-true p (mark a) i in let y = room a q (old_kind n a q j k) in absurd (omega arith)
    go ih false i true j = let x = room a p (old_kind n a p i h) in let y = eqb-true q (mark a) j in omega arith
    go ih false i false j = ih (old_kind n a p i h) (old_kind n a q j k)

pub slot_own : (a : Nodes) (p q : ℕ) → 1 ≤ kind_at a p → 1 ≤ kind_at a q → p / 4 ≡ q / 4 → p ≡ q
slot_own a p q h k e = go (leb q p) refl (leb p q) refl
  where
    go : (b : Bool) → leb q p ≡ b → (d : Bool) → leb p q ≡ d → p ≡ q
    go false i d j = let x = apart a p q h k (leb-false q p i) in absurd (omega arith)
    go true i false j = let x = apart a q p k h (leb-false p q j) in absurd (omega arith)
    go true i true j = let x = leb-true q p i in let y = leb-true p q j in omega arith
