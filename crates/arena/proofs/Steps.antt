-- How builders are put together: what one that was built leaves is what the next one asks, and one that had no room ends the row.
use mathlib.Core.Path.{◌≡◌, refl, sym, ap, ◌∙◌, subst}
use Prim.Native.Nat.{ℕ, ◌+◌, ◌≤◌, ◌<◌}
use native.Mathlib.Nat.{le_refl}
use native.Mathlib.Omega.{arith}
use mathlib.Core.Bool.{Bool, true, false, cond}
use mathlib.Core.Option.{Option, none, some}
use mathlib.Core.List.{List, ◌∷◌, ◌++◌}
use lib.ListN.{length, take, drop}
use lib.Seq.{length-take-le, take-append-le, take-take}
use lib.Dec.{leb}
use borrow.Author.Tests.{le-leb, lt-leb, leb-true, leb-false}
use Rattle.arena.specs.Nodes.{Node, node, Nodes, size, mark, find, Out, out, put_found, put, ◌⨟◌}
use Rattle.arena.specs.Cells.{cells_of, padded, used}
use Rattle.arena.specs.WellFormed.{IsArena}
use Rattle.arena.specs.Did.{Reply, built, full, reply, Done, put_typed, found_or}
use Rattle.arena.proofs.Ext.{Ext, ext_same, ext_one, ext_trans, mark-cons, mark_ext}
use Rattle.arena.proofs.Chain.{WF}
use Rattle.arena.proofs.Put.{find_sound, put_found_lem, put_added}
use Rattle.arena.proofs.Formed.{mark_is}
use Rattle.arena.proofs.Padded.{arena-cells, padded-length, padded-used, padded-arena, added_cells}

-- ---- the answer

pub reply-fits : (n : ℕ) (o : Out) → mark o.arena ≤ n → reply n o ≡ built (mark o.arena) o.at
unfolding reply
reply-fits n o h = rw (le-leb (mark o.arena) n h)

pub reply-full : (n : ℕ) (o : Out) → n < mark o.arena → reply n o ≡ full
unfolding reply
reply-full n o h = rw (lt-leb (mark o.arena) n h)

-- what an answer says
record Room (n : ℕ) (o : Out) (m p : ℕ) : Type 0 where
  fits : mark o.arena ≤ n
  marked : m ≡ mark o.arena
  placed : p ≡ o.at

has_room : (n : ℕ) (o : Out) (m p : ℕ) → built m p ≡ reply n o → Room n o m p
unfolding reply
has_room n o m p = go (leb (mark o.arena) n) refl
  where
    go : (b : Bool) → leb (mark o.arena) n ≡ b → built m p ≡ cond b (built (mark o.arena) o.at) full → Room n o m p
    go true e q = record { fits = leb-true (mark o.arena) n e; marked = cc; placed = cc }
    go false e q = let z : ◌≡◌ {A = ℕ} 0 1 = cc in absurd (omega arith)

no_room : (n : ℕ) (o : Out) → full ≡ reply n o → n < mark o.arena
unfolding reply
no_room n o = go (leb (mark o.arena) n) refl
  where
    go : (b : Bool) → leb (mark o.arena) n ≡ b → full ≡ cond b (built (mark o.arena) o.at) full → n < mark o.arena
    go true e q = let z : ◌≡◌ {A = ℕ} 0 1 = cc in absurd (omega arith)
    go false e q = leb-false (mark o.arena) n e

-- ---- one step

-- the answer as it is seen
pub seen : {o : Out} {c : List ℕ} {m : ℕ} {v w : Reply} {c' : List ℕ} → v ≡ w → Done o c m v c' → Done o c m w c'
seen e d = record { answer = sym e ∙ d.answer; long = d.long; grown = d.grown; kept = d.kept; left = d.left }

-- a step's answer is one, and so are its cells where it fits
pub did_once : {o : Out} {c : List ℕ} {m : ℕ} {r s : Reply} {c' d' : List ℕ} → Done o c m r c' → Done o c m s d'
    → (r ≡ s) × (mark o.arena ≤ length c → c' ≡ d')
did_once f g = (f.answer ∙ sym g.answer, λ h. f.left h ∙ sym (g.left h))

-- a step is the one that its tests pick
pub picked : {o q : Out} {c : List ℕ} {m : ℕ} {r : Reply} {c' : List ℕ} → Done o c m r c' → q ≡ o → Done q c m r c'
picked {c = c} {m = m} {r = r} {c' = c'} d e = subst (λ (x : Out). Done x c m r c') (sym e) d

-- a term that is there already
pub did_here : {c : List ℕ} {m : ℕ} → IsArena c m → (p : ℕ) → Done (out (used c m) p) c m (built m p) c
did_here {c} {m} A p =
    let x = mark_is A.below in let y = A.below.fits in
    record {
      answer = ap (λ (k : ℕ). built k p) (sym x) ∙ sym (reply-fits (length c) (out (used c m) p) (omega arith));
      long = refl;
      grown = omega arith;
      kept = refl;
      left = λ h. arena-cells A;
    }

-- ---- a node found or added

found_some : (f : Option ℕ) (m r : ℕ) → r ≡ found_or m f → r < m → f ≡ some r
found_some none m r e h = absurd (omega arith)
found_some (some p) m r e h = ap some (sym e)

found_none : {c : List ℕ} {m : ℕ} → IsArena c m → (n : Node) (r : ℕ) → r ≡ found_or m (find (used c m) n) → m ≤ r → find (used c m) n ≡ none
found_none {c} {m} A n r e h = go (find (used c m) n) refl
  where
    go : (f : Option ℕ) → find (used c m) n ≡ f → find (used c m) n ≡ none
    go none q = q
    go (some p) q =
        let x = (find_sound (used c m) n p q).0 in
        let y = mark_is A.below in
        let z : r ≡ p = e ∙ ap (found_or m) q in
        absurd (omega arith)

-- by the number r that the search gave
module _ {c : List ℕ} {m : ℕ} (A : IsArena c m) (n : Node) (r : ℕ) (f : r ≡ found_or m (find (used c m) n)) where
  -- no room is needed for a node that is there
  pub did_found : r < m → Done (put (used c m) n) c m (built m r) c
  did_found h = picked (did_here A r) (put_found_lem (used c m) n r (found_some (find (used c m) n) m r f h))

  module _ (h : m ≤ r) where
    new : put (used c m) n ≡ out (n ∷ used c m) (mark (used c m))
    new = put_added (used c m) n (found_none A n r f h)

    new_mark : mark (n ∷ used c m) ≡ m + size n
    new_mark = let x = mark_is A.below in let y = mark-cons n (used c m) in omega arith

    pub did_full : length c < m + size n → Done (put (used c m) n) c m full c
    did_full l =
        let x = new_mark in
        picked (record {
          answer = sym (reply-full (length c) (out (n ∷ used c m) (mark (used c m))) (omega arith));
          long = refl;
          grown = omega arith;
          kept = refl;
          left = λ k. absurd (omega arith);
        }) new

    pub did_added : {c' : List ℕ} → m + size n ≤ length c → c' ≡ take m c ++ (cells_of n ++ drop (m + size n) c)
        → Done (put (used c m) n) c m (built (m + size n) m) c'
    did_added {c'} l w =
        let x = new_mark in let y = A.below.fits in
        let z : c' ≡ padded (length c) (n ∷ used c m) = w ∙ added_cells A n l in
        let t = length-take-le m c y in
        picked (record {
          answer = sym (reply-fits (length c) (out (n ∷ used c m) (mark (used c m))) (omega arith) ∙ (λ i. built (x i) (mark_is A.below i)));
          long = ap length z ∙ padded-length (length c) (n ∷ used c m) (omega arith);
          grown = omega arith;
          kept = ap (take m) w ∙ take-append-le m (take m c) (cells_of n ++ drop (m + size n) c) (omega arith) ∙ take-take m m c (le_refl m);
          left = λ k. z;
        }) new

-- ---- a step that was built

module _ {o : Out} {c : List ℕ} {m : ℕ} {v : Reply} {c' : List ℕ} {m' p : ℕ} (e : v ≡ built m' p) (d : Done o c m v c') where
  room : Room (length c) o m' p
  room = has_room (length c) o m' p (sym e ∙ d.answer)

  -- every cell
  pub then_cells : c' ≡ padded (length c) o.arena
  then_cells = d.left room.fits

  pub then_mark : m' ≡ mark o.arena
  then_mark = room.marked

  pub then_at : p ≡ o.at
  then_at = room.placed

  -- the arena in them
  pub then_used : used c' m' ≡ o.arena
  then_used = (λ i. used (then_cells i) (room.marked i)) ∙ padded-used (length c) o.arena room.fits

  -- the next step may be called
  pub then_arena : IsArena c m → WF o.arena → IsArena c' m'
  then_arena A w =
      subst (λ (k : ℕ). IsArena c' k) (sym room.marked)
      (subst (λ (l : List ℕ). IsArena l (mark o.arena)) (sym then_cells) (padded-arena (length c) o.arena room.fits w A.below.short))

  -- a position goes on to the next step
  pub did_then : (G : Nodes → ℕ → Out) {r : Reply} {c'' : List ℕ} → Done (G (used c' m') p) c' m' r c'' → Done (o ⨟ G) c m r c''
  did_then G {r} {c''} s =
      let q : Done (o ⨟ G) c' m' r c'' = subst (λ (x : Out). Done x c' m' r c'') (λ i. G (then_used i) (room.placed i)) s in
      let g = d.grown in let h = room.marked in let l = d.long in
      record {
        answer = q.answer ∙ ap (λ (n : ℕ). reply n (o ⨟ G)) l;
        long = q.long ∙ l;
        grown = let k = q.grown in omega arith;
        kept =
            sym (take-take m m' c'' (omega arith)) ∙ ap (take m) q.kept ∙ take-take m m' c' (omega arith) ∙ d.kept;
        left = λ k. q.left (omega arith) ∙ ap (λ (n : ℕ). padded n (o ⨟ G).arena) l;
      }

-- ---- a step that had no room

pub did_stop : {o q : Out} {c : List ℕ} {m : ℕ} {v : Reply} {c' : List ℕ} → v ≡ full → Done o c m v c' → Ext o.arena q.arena → Done q c m full c'
did_stop {o} {q} {c} e d x =
    let h = no_room (length c) o (sym e ∙ d.answer) in
    let k = mark_ext x in
    let g = d.grown in
    record {
      answer = sym (reply-full (length c) q (omega arith));
      long = d.long;
      grown = omega arith;
      kept = d.kept;
      left = λ l. absurd (omega arith);
    }

-- an arena only grows
pub put_ext : (a : Nodes) (n : Node) → Ext a (put a n).arena
unfolding put put_found
put_ext a n = go (find a n)
  where
    go : (f : Option ℕ) → Ext a (put_found a n f).arena
    go (some p) = ext_same
    go none = ext_one

pub typed_ext : (a : Nodes) (n : Node) (k p : ℕ) (ms : List ℕ) → Ext a (put_typed a n k p ms).arena
typed_ext a n k p ms = ext_trans (put_ext a n) (put_ext (put a n).arena (node k (put a n).at p ms))
