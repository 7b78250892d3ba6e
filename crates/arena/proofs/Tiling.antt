-- A well-formed arena is reached node by node: what may follow the nodes below q, and what must.
use mathlib.Core.Path.{◌≡◌, sym, ap, ap₂, ◌∙◌, subst}
use Prim.Native.Nat.{ℕ, suc, ◌+◌, ◌≤◌, ◌<◌}
use native.Mathlib.Omega.{arith}
use mathlib.Core.Bool.{true}
use mathlib.Core.Option.{some}
use mathlib.Core.List.{List, [], ◌∷◌, ◌++◌, append-nil}
use lib.ListN.{length, take, drop, get_or, length-drop, take-append-drop}
use lib.Seq.{length-take-le, drop-cons, take-add, take-take, take_at}
use Rattle.arena.specs.Nodes.{header, Node, Nodes, mark, node_at, kind_at, fresh}
use Rattle.arena.specs.Cells.{cells_of, cells, parse_on, parse, used, node_here, after}
use Rattle.arena.specs.WellFormed.{fewest, most, good_node, absent, Below}
use Rattle.arena.proofs.Ext.{Ext, ext_same, ext_more, mark-fresh, mark_more, mark_ext, node_new, node_ext}
use Rattle.arena.proofs.Chain.{Chain, link, chain_older, link_is}
use Rattle.arena.proofs.View.{good_pos}
use Rattle.arena.proofs.Known.{B}
use Rattle.arena.proofs.Flat.{length-cells, parse_on_lem, parse-cells, parse_ext, ext_cells}
use Rattle.arena.proofs.Formed.{absent_none, none_absent, fresh_wf, used_is, wf, cells_are, mark_is, below_of}
use Rattle.arena.proofs.Read.{after_end, here-at}

-- ---- lists

split4 : (c : List ℕ) (q : ℕ) → q + 4 ≤ length c
    → drop q c ≡ get_or c q 0 ∷ get_or c (q + 1) 0 ∷ get_or c (q + 2) 0 ∷ get_or c (q + 3) 0 ∷ drop (q + 4) c
split4 c q h =
    let e1 : suc q ≡ q + 1 = omega arith in
    let e2 : suc (q + 1) ≡ q + 2 = omega arith in
    let e3 : suc (q + 2) ≡ q + 3 = omega arith in
    let e4 : suc (q + 3) ≡ q + 4 = omega arith in
    let d0 : drop q c ≡ get_or c q 0 ∷ drop (q + 1) c = drop-cons c q 0 (omega arith) ∙ ap (λ (i : ℕ). get_or c q 0 ∷ drop i c) e1 in
    let d1 : drop (q + 1) c ≡ get_or c (q + 1) 0 ∷ drop (q + 2) c = drop-cons c (q + 1) 0 (omega arith) ∙ ap (λ (i : ℕ). get_or c (q + 1) 0 ∷ drop i c) e2 in
    let d2 : drop (q + 2) c ≡ get_or c (q + 2) 0 ∷ drop (q + 3) c = drop-cons c (q + 2) 0 (omega arith) ∙ ap (λ (i : ℕ). get_or c (q + 2) 0 ∷ drop i c) e3 in
    let d3 : drop (q + 3) c ≡ get_or c (q + 3) 0 ∷ drop (q + 4) c = drop-cons c (q + 3) 0 (omega arith) ∙ ap (λ (i : ℕ). get_or c (q + 3) 0 ∷ drop i c) e4 in
    d0 ∙ ap (λ (l : List ℕ). get_or c q 0 ∷ l) (d1 ∙ ap (λ (l : List ℕ). get_or c (q + 1) 0 ∷ l) (d2 ∙ ap (λ (l : List ℕ). get_or c (q + 2) 0 ∷ l) d3))

pub here-count : (c : List ℕ) (q : ℕ) → after c q ≤ length c → length (node_here c q).mem ≡ get_or c (q + 3) 0
unfolding node_here
here-count c q h = length-take-le (get_or c (q + 3) 0) (drop (q + header) c) (let e = length-drop (q + header) c in omega arith)

here-cells : (c : List ℕ) (q : ℕ) → after c q ≤ length c → take (after c q) c ≡ take q c ++ cells_of (node_here c q)
unfolding node_here
here-cells c q h =
    let n = get_or c (q + 3) 0 in
    let four : 4 + n ≡ suc (suc (suc (suc n))) = omega arith in
    take-add q (4 + n) c
    ∙ ap (λ (l : List ℕ). take q c ++ l)
    (ap₂ (λ (i : ℕ) (l : List ℕ). take i l) four (split4 c q (omega arith))
    ∙ ap (λ (i : ℕ). get_or c q 0 ∷ get_or c (q + 1) 0 ∷ get_or c (q + 2) 0 ∷ i ∷ take n (drop (q + header) c)) (sym (here-count c q h)))

-- ---- one node more may follow

module _ {c : List ℕ} {q : ℕ} (B : Below c q) (h : after c q ≤ length c) where
  parse_more : parse (take (after c q) c) ≡ some (node_here c q ∷ used c q)
  unfolding cells
  parse_more =
      ap parse (here-cells c q h ∙ ap (λ (l : List ℕ). l ++ cells_of (node_here c q)) (sym (cells_are B)))
      ∙ parse-cells (node_here c q ∷ used c q)

  pub used_more : used c (after c q) ≡ node_here c q ∷ used c q
  used_more = used_is c (after c q) (node_here c q ∷ used c q) parse_more

  pub next-below : good_node (used c q) (node_here c q) ≡ true → absent (used c q) (node_here c q) ≡ true → Below c (after c q)
  next-below g f =
      below_of c (after c q) (node_here c q ∷ used c q) h B.short parse_more
      (record { base = ext_more (node_here c q) (wf B).base; chain = link (wf B).chain g (absent_none (used c q) (node_here c q) f) })

-- ---- the node that comes next

pub record Next (o a : Nodes) : Type 0 where
  pub node! : Node
  pub ext : Ext (node! ∷ o) a
  pub pos : 1 ≤ node!.kind

pub next : {o a : Nodes} → Ext o a → Chain a → mark o < mark a → Next o a
next ext_same c h = absurd (omega arith)
next (ext_more {b = b} n ext_same) (link c g f) h = record { node! = n; ext = ext_same; pos = good_pos b n g }
next {o} (ext_more n (ext_more {b = b} n' e)) (link c g f) h =
    let r = next (ext_more n' e) c (let x = mark_ext e in let y = mark_more n' b in omega arith) in
    record { node! = r.node!; ext = ext_more n r.ext; pos = r.pos }

-- it stands at the older arena's mark
pub next-there : {o a : Nodes} (n : Next o a) (q : ℕ) → mark o ≡ q → node_at a q ≡ n.node!
next-there {o} n q e =
    node_ext n.ext q (let x = mark_more n.node! o in omega arith) ∙ node_new n.node! o q (sym e)

pub next_pos : {o a : Nodes} (n : Next o a) (q : ℕ) → mark o ≡ q → 1 ≤ kind_at a q
next_pos n q e = subst (λ (m : Node). 1 ≤ m.kind) (sym (next-there n q e)) n.pos

-- ---- and one must follow where the mark is higher

module _ {c : List ℕ} {m q : ℕ} (M : Below c m) (B : Below c q) (h : q < m) where
  both : take m c ≡ cells (used c q) ++ drop q (take m c)
  both =
      sym (take-append-drop q (take m c))
      ∙ ap (λ (l : List ℕ). l ++ drop q (take m c)) (take-take q m c (omega arith) ∙ sym (cells_are B))

  pub longer : Ext (used c q) (used c m)
  unfolding parse
  longer =
      parse_ext (drop q (take m c)) (used c q) (used c m) 0
      (sym (ap (parse_on [] 0) both ∙ parse_on_lem [] (used c q) (drop q (take m c)) ∙ ap (λ (a : Nodes). parse_on a 0 (drop q (take m c))) (append-nil (used c q)))
      ∙ M.reads)

  nx : Next (used c q) (used c m)
  nx = next longer (wf M).chain (let x = mark_is M in let y = mark_is B in omega arith)

  pos : 1 ≤ kind_at (used c m) q
  pos = next_pos nx q (mark_is B)

  pub must_fit : after c q ≤ m
  must_fit = after_end M q pos

  here-next : node_here c q ≡ nx.node!
  here-next = here-at M q pos ∙ next-there nx q (mark_is B)

  pub must_good : good_node (used c q) (node_here c q) ≡ true
  must_good = subst (λ (n : Node). good_node (used c q) n ≡ true) (sym here-next) (link_is (chain_older nx.ext (wf M).chain)).0

  pub must_new : absent (used c q) (node_here c q) ≡ true
  must_new = subst (λ (n : Node). absent (used c q) n ≡ true) (sym here-next) (none_absent (used c q) nx.node! (link_is (chain_older nx.ext (wf M).chain)).1)

-- ---- the first three nodes

pub fresh-below : (c : List ℕ) → fewest ≤ length c → length c ≤ most → take fewest c ≡ cells fresh → Below c fewest
fresh-below c l h e = below_of c 12 fresh l h (ap parse e ∙ parse-cells fresh) fresh_wf

pub fresh-used : (c : List ℕ) → take fewest c ≡ cells fresh → used c fewest ≡ fresh
fresh-used c e = used_is c 12 fresh (ap parse e ∙ parse-cells fresh)

pub must_fresh : {c : List ℕ} {m : ℕ} → Below c m → take fewest c ≡ cells fresh
must_fresh {c} {m} B =
    let x = ext_cells (wf B).base in
    let l = length-cells fresh in
    let k = mark-fresh in
    sym (take-take 12 m c (let z = B.least in omega arith))
    ∙ ap (take 12) (sym (cells_are B) ∙ x.1)
    ∙ take_at (cells fresh) x.0 12 (l ∙ k)
