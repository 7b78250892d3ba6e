-- A walk over lent cells from one start of a node to the next: what it has seen says what stands at a number.
use mathlib.Core.Path.{◌≡◌, refl, sym, ap, ◌∙◌, subst}
use Prim.Native.Nat.{ℕ, ◌≤◌, ◌<◌}
use native.Mathlib.Omega.{arith}
use mathlib.Core.Bool.{false}
use mathlib.Core.List.{List, [], ◌∷◌}
use lib.ListN.{length, get_or}
use lib.Dec.{leb}
use borrow.Author.Tests.{lt-leb, le-leb}
use Rattle.arena.specs.Lists.{within}
use Rattle.arena.specs.Nodes.{Node, Nodes, mark, over, node_at, kind_at, mem_at}
use Rattle.arena.specs.Cells.{used, after}
use Rattle.arena.specs.WellFormed.{Below}
use Rattle.arena.proofs.Bools.{every_on, every_off, every_one}
use Rattle.arena.proofs.Ext.{Ext, ext_same, ext_more, ext_older, ext_all, mark_nil, mark-fresh, mark-cons, mark_more, mark_ext, node_old, node_ext, node_far}
use Rattle.arena.proofs.Chain.{place}
use Rattle.arena.proofs.Formed.{wf, mark_is}
use Rattle.arena.proofs.Read.{read_kind, read_count, after_end}
use Rattle.arena.proofs.Tiling.{Next, next, next-there, next_pos}

-- no node that was seen starts at p, and the walk stands at q
pub record Past (c : List ℕ) (m p q : ℕ) : Type 0 where
  pub seen : Nodes
  pub ext : Ext seen (used c m)
  pub at : mark seen ≡ q
  pub none : kind_at seen p ≡ 0

pub past_start : (c : List ℕ) (m p : ℕ) → Past c m p 0
past_start c m p =
    record { seen = []; ext = ext_all (used c m); at = mark_nil; none = ap (λ (n : Node). n.kind) (node_far [] p (let z = mark_nil in omega arith)) }

-- a walk may begin at the node that starts at q, if p is not below it
pub past_from : {c : List ℕ} {m : ℕ} → Below c m → (p q : ℕ) → 1 ≤ kind_at (used c m) q → q ≤ p → Past c m p q
past_from B p q k l =
    let w = place (wf B).chain q k in
    record { seen = w.older; ext = ext_older w.ext; at = w.here; none = ap (λ (n : Node). n.kind) (node_far w.older p (let h = w.here in omega arith)) }

-- Bool starts at 0
pub first_kind : {c : List ℕ} {m : ℕ} → Below c m → 1 ≤ kind_at (used c m) 0
unfolding node_at over mark
first_kind B = subst (λ (n : Node). 1 ≤ n.kind) (sym (node_ext (wf B).base 0 (let z = mark-fresh in omega arith))) (omega arith)

-- the whole arena was seen where its marks agree
all_seen : {o a : Nodes} → Ext o a → mark a ≤ mark o → o ≡ a
all_seen ext_same h = refl
all_seen (ext_more {b = b} n e) h = let x = mark_ext e in let y = mark_more n b in absurd (omega arith)

module _ {c : List ℕ} {m : ℕ} (B : Below c m) (p q : ℕ) (s : Past c m p q) where
  -- the walk is past p
  pub past_over : p < q → 0 ≡ kind_at (used c m) p
  past_over h =
      let x = s.at in
      sym (ap (λ (n : Node). n.kind) (node_ext s.ext p (omega arith)) ∙ s.none)

  pub past_end : m ≤ q → 0 ≡ kind_at (used c m) p
  past_end h =
      let x = s.at in let y = mark_is B in
      sym (ap (λ (a : Nodes). kind_at a p) (sym (all_seen s.ext (omega arith))) ∙ s.none)

  -- below the mark another node stands at q
  module _ (h : q < m) where
    nx : Next s.seen (used c m)
    nx = next s.ext (wf B).chain (let x = s.at in let y = mark_is B in omega arith)

    pos : 1 ≤ kind_at (used c m) q
    pos = next_pos nx q s.at

    pub past_fits : after c q ≤ m
    past_fits = after_end B q pos

    pub past_here : p ≡ q → get_or c q 0 ≡ kind_at (used c m) p
    past_here e = read_kind B q pos ∙ ap (kind_at (used c m)) (sym e)

    pub past_next : (p ≡ q → ⊥) → Past c m p (after c q)
    past_next d =
        let there = next-there nx q s.at in
        let x = s.at in
        record {
          seen = nx.node! ∷ s.seen;
          ext = nx.ext;
          at =
              let y = read_count B q pos in
              let w : length (mem_at (used c m) q) ≡ length nx.node!.mem = ap (λ (n : Node). length n.mem) there in
              let z = mark-cons nx.node! s.seen in omega arith;
          none = ap (λ (n : Node). n.kind) (node_old nx.node! s.seen p (λ e. d (e ∙ x))) ∙ s.none;
        }

-- ---- is a kind one of a type

pub no-type : {x k : ℕ} → x ≡ k → x < 1 → false ≡ within 1 15 k
no-type {x} {k} e h = every_off (leb 1 k) (leb k 15 ∷ []) (lt-leb 1 k (omega arith))

pub type_if : {x k : ℕ} → x ≡ k → 1 ≤ x → leb x 15 ≡ within 1 15 k
type_if {x} {k} e h = ap (λ (n : ℕ). leb n 15) e ∙ every_on (leb 1 k) (leb k 15) (leb k 15 ∷ []) (le-leb 1 k (omega arith)) (every_one (leb k 15))
