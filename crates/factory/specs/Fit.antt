-- What a builder asks of the lent cells and its operands: an arena, and operands of the types that document 01 names.
use Rattle.std.specs.Prelude.{◌≡◌, true, List, [], ◌∷◌, ℕ}
use Rattle.arena.specs.Nodes.{Nodes, kind_at, type_at}
use Rattle.arena.specs.WellFormed.{is_term}
use Rattle.arena.specs.Values.{Ty}
use Rattle.arena.specs.Meaning.{ty_at}
use Rattle.nodes.specs.declared.Arena.{Arena}
use Rattle.nodes.specs.Builds.{nodes_of, Formed}

-- x is the start of a term of the type y
pub record Typed (a : Nodes) (y : Ty) (x : ℕ) : Type 0 where
  pub isterm : is_term a x ≡ true
  pub typed : ty_at a x ≡ y

-- x and z are terms of one type
abbrev pub Alike : Nodes → ℕ → ℕ → Type 0
Alike a x z = Typed a (ty_at a x) x × Typed a (ty_at a x) z

-- x is the start of a term whose type is of kind k
pub record OfKind (a : Nodes) (k x : ℕ) : Type 0 where
  pub isterm : is_term a x ≡ true
  pub sort : kind_at a (type_at a x) ≡ k

-- each is the start of a term whose type is an Option
abbrev pub Options : Nodes → List ℕ → Type 0
Options a [] = Unit {0}
Options a (x ∷ r) = OfKind a 3 x × Options a r

-- a well-formed arena of whose nodes P holds
pub record Ready (P : Nodes → Type 0) (o : Arena) : Type 0 where
  pub arena : Formed o
  pub fit : P (nodes_of o)
