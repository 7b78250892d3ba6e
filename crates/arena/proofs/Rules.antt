-- A walk over the nodes: what the rule says of the kind that stands at p decides, or all members do.
use mathlib.Core.Path.{◌≡◌, ap, ◌∙◌}
use Prim.Native.Nat.{ℕ, ◌≤◌, ◌<◌}
use native.Mathlib.Omega.{arith}
use mathlib.Core.Bool.{true, false}
use borrow.Author.Tests.{ne_eqb, le-leb, lt-leb}
use Rattle.arena.specs.Lists.{all}
use Rattle.arena.specs.Nodes.{Nodes, node_at, kind_at, args}
use Rattle.arena.specs.Walks.{Verdict, pass, fail, ask, said, ruled, walked, lit_rule, free_rule}
use Rattle.arena.proofs.Chain.{Chain, walked_at}

module _ (r : ℕ → Verdict) {a : Nodes} (c : Chain a) (p : ℕ) (h : 1 ≤ kind_at a p) where
  walk_said : (v : Verdict) → r (kind_at a p) ≡ v → walked r a p ≡ said v (all (walked r a) (args (node_at a p)))
  unfolding ruled
  walk_said v e = walked_at r c p h ∙ ap (λ v. said v (all (walked r a) (args (node_at a p)))) e

  pub walk_pass : r (kind_at a p) ≡ pass → walked r a p ≡ true
  walk_pass e = walk_said pass e

  pub walk_fail : r (kind_at a p) ≡ fail → walked r a p ≡ false
  walk_fail e = walk_said fail e

  pub walk_ask : r (kind_at a p) ≡ ask → walked r a p ≡ all (walked r a) (args (node_at a p))
  walk_ask e = walk_said ask e

-- ---- the two rules

pub lit_pass : (k : ℕ) → 16 ≤ k → k ≤ 18 → lit_rule k ≡ pass
unfolding lit_rule
lit_pass k h j = rw (le-leb k 18 j, le-leb 16 k h)

pub lit_ask : (k : ℕ) → 18 < k → k ≤ 21 → lit_rule k ≡ ask
unfolding lit_rule
lit_ask k h j = rw (lt-leb k 18 h, le-leb k 21 j)

pub lit_fail : (k : ℕ) → 21 < k → lit_rule k ≡ fail
unfolding lit_rule
lit_fail k h = rw (lt-leb k 18 (omega arith), lt-leb k 21 h)

pub free_fail : (k : ℕ) → k ≡ 4 → free_rule k ≡ fail
unfolding free_rule
free_fail k e = rw e

pub free_ask : (k : ℕ) → (k ≡ 4 → ⊥) → k ≤ 5 → free_rule k ≡ ask
unfolding free_rule
free_ask k h j = rw (ne_eqb k 4 h, le-leb k 5 j)
