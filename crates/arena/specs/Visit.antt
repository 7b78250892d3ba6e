-- The two walks as one: what both ask of a node.
use Rattle.std.specs.Prelude.{◌≡◌, Bool, cond, List, ℕ, leb}
use Rattle.arena.specs.Nodes.{Nodes, kind_at}
use Rattle.arena.specs.Walks.{is_lit, set_free}
use Rattle.arena.specs.Lent.{Sure}

-- a type free of sets, or a literal
unfoldable pub clean : Nodes → ℕ → Bool
clean a p = cond (leb (kind_at a p) 15) (set_free a p) (is_lit a p)

-- flags stand at nodes that are clean
abbrev pub Known : Nodes → List Bool → Type 0
Known a flags = Sure a (clean a) flags

-- the walk's answer, and the flags that it leaves
pub record Walked (a : Nodes) (p : ℕ) (r : Bool) (flags : List Bool) : Type 0 where
  pub answer : r ≡ clean a p
  pub known : Known a flags
