-- The search for a node in flat cells, from one start to the next.
use mathlib.Core.Path.{◌≡◌, refl, sym, ap, ◌∙◌, subst}
use Prim.Native.Nat.{ℕ, ◌≤◌, ◌<◌}
use native.Mathlib.Omega.{arith}
use mathlib.Core.Bool.{true, false}
use mathlib.Core.Option.{none, some}
use mathlib.Core.List.{List, [], ◌∷◌}
use lib.ListN.{length}
use Rattle.arena.specs.Nodes.{Node, Nodes, mark, node_at, kind_at, mem_at, same, find}
use Rattle.arena.specs.Cells.{used, node_here, after}
use Rattle.arena.specs.WellFormed.{absent, Below}
use Rattle.arena.proofs.Ext.{Ext, ext_same, ext_more, ext_all, mark_nil, mark-cons, mark_more, mark_ext}
use Rattle.arena.proofs.Put.{same-node, find_at}
use Rattle.arena.proofs.Formed.{wf, mark_is}
use Rattle.arena.proofs.Read.{read_count, after_end, here-at}
use Rattle.arena.proofs.Tiling.{Next, next, next-there, next_pos}

-- where the search stands: the nodes below q are not the one looked for
pub record Scan (c : List ℕ) (m : ℕ) (key : Node) (q : ℕ) : Type 0 where
  pub seen : Nodes
  pub ext : Ext seen (used c m)
  pub at : mark seen ≡ q
  pub not_yet : find seen key ≡ none

pub scan_start : (c : List ℕ) (m : ℕ) (key : Node) → Scan c m key 0
scan_start c m key = record { seen = []; ext = ext_all (used c m); at = mark_nil; not_yet = unfold find in refl }

module _ {c : List ℕ} {m : ℕ} (B : Below c m) (key : Node) (q : ℕ) (s : Scan c m key q) where
  -- below the mark another node stands at q
  module _ (h : q < m) where
    nx : Next s.seen (used c m)
    nx = next s.ext (wf B).chain (let x = s.at in let y = mark_is B in omega arith)

    pub scan_pos : 1 ≤ kind_at (used c m) q
    scan_pos = next_pos nx q s.at

    pub scan_fits : after c q ≤ m
    scan_fits = after_end B q scan_pos

    pub scan_within : after c q ≤ length c
    scan_within = let f = scan_fits in let g = B.fits in omega arith

    -- it is the one
    pub scan_hit : same (node_here c q) key ≡ true → find (used c m) key ≡ some q
    scan_hit e =
        let is_key : node_at (used c m) q ≡ key = sym (here-at B q scan_pos) ∙ same-node (node_here c q) key e in
        find_at (wf B).chain key q (subst (λ (n : Node). 1 ≤ n.kind) is_key scan_pos) is_key

    -- it is not, and the search goes on
    pub scan_miss : same (node_here c q) key ≡ false → Scan c m key (after c q)
    unfolding find
    scan_miss e =
        let there = next-there nx q s.at in
        let n : same nx.node! key ≡ false = ap (λ (n : Node). same n key) (sym (here-at B q scan_pos ∙ there)) ∙ e in
        record {
          seen = nx.node! ∷ s.seen;
          ext = nx.ext;
          at =
              let x = read_count B q scan_pos in let y = s.at in
              let w : length (mem_at (used c m) q) ≡ length nx.node!.mem = ap (λ (n : Node). length n.mem) there in
              let z = mark-cons nx.node! s.seen in omega arith;
          not_yet = rw (n, find) s.not_yet;
        }

  -- at the mark everything has been seen
  pub scan_end : m ≤ q → find (used c m) key ≡ none
  scan_end h = go s.ext (let x = s.at in let y = mark_is B in omega arith) s.not_yet
    where
      go : {o a : Nodes} → Ext o a → mark a ≤ mark o → find o key ≡ none → find a key ≡ none
      go ext_same l f = f
      go (ext_more {b = b} n e) l f = let x = mark_ext e in let y = mark_more n b in absurd (omega arith)

pub find_absent : (a : Nodes) (n : Node) (p : ℕ) → find a n ≡ some p → absent a n ≡ false
unfolding absent
find_absent a n p e = rw (e, absent)
