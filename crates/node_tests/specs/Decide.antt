-- What the well-formedness test knows on its way, and what it wants at a position.
use Rattle.std.specs.Prelude.{◌≡◌, Bool, true, List, ℕ, ◌*◌, ◌≤◌, length, get_or}
use Rattle.arena.specs.Nodes.{Nodes}
use Rattle.arena.specs.Cells.{used}
use Rattle.arena.specs.WellFormed.{fewest, most, is_type, is_term, type_is, clear, Below}
use Rattle.arena.specs.Lent.{Starts}
use Rattle.node_tests.specs.declared.Want.{Want}
use Rattle.node_tests.specs.declared.Want.TheVariants.{Kind, Term, Of}

-- Bool, false and true are read: what the loop over the other nodes starts from
pub record First (c : List ℕ) (m : ℕ) (f : List ℕ) : Type 0 where
  pub least : fewest ≤ m
  pub fits : m ≤ length c
  pub zeros : clear c m ≡ true
  pub below : Below c fewest
  pub starts : Starts (used c fewest) f
  pub long : most ≤ 4 * length f

-- a single member is a type
abbrev pub ElemType : Nodes → List ℕ → Type 0
ElemType a r = length r ≡ 1 → is_type a (get_or r 0 0) ≡ true

-- what is wanted at x
abbrev pub wanted : Nodes → Want → ℕ → Bool
wanted a Kind x = is_type a x
wanted a Term x = is_term a x
wanted a (Of t) x = type_is a x t
