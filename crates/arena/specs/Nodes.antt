-- An arena is its nodes, the newest first, so that 'every position in a node is lower than the node's own' is the structure of the list:
-- what a node points at is looked up in the list behind it.
use Rattle.std.specs.Prelude.{ℕ, ◌+◌, Bool, true, false, cond, ◌||◌, List, [], ◌∷◌, length, get_or, eqb}
use Rattle.std.proofs.Math.Option.{Option, none, some}
use Rattle.arena.specs.Lists.{every, same_list, evens, odds}

-- the cells of a node before its members
abbrev pub header : ℕ
header = 4

pub record Node : Type 0 where
  pub kind : ℕ
  pub type : ℕ
  pub par : ℕ
  pub mem : List ℕ

abbrev pub node : ℕ → ℕ → ℕ → List ℕ → Node
node k t p ms = record { kind = k; type = t; par = p; mem = ms }

-- what stands where no node starts
abbrev pub nowhere : Node
nowhere = node 0 0 0 []

abbrev pub Nodes : Type 0
Nodes = List Node

-- its cells
abbrev pub size : Node → ℕ
size n = header + length n.mem

-- the cells of all nodes, and so the position of the next
unfoldable pub mark : Nodes → ℕ
mark [] = 0
mark (n ∷ a) = mark a + size n

-- a function of positions by recursion on the arena: where a node starts, `step` is handed the older arena, the function there, and the node
unfoldable pub over {ℓ} : {X : Type ℓ} → X → (Nodes → (ℕ → X) → Node → X) → Nodes → ℕ → X
over d step [] p = d
over d step (n ∷ a) p = elim (eqb p (mark a)) [ true ↦ step a (over d step a) n | false ↦ over d step a p ]

unfoldable pub node_at : Nodes → ℕ → Node
node_at = over nowhere (λ a f n. n)

abbrev pub kind_at : Nodes → ℕ → ℕ
kind_at a p = (node_at a p).kind

abbrev pub type_at : Nodes → ℕ → ℕ
type_at a p = (node_at a p).type

abbrev pub par_at : Nodes → ℕ → ℕ
par_at a p = (node_at a p).par

abbrev pub mem_at : Nodes → ℕ → List ℕ
mem_at a p = (node_at a p).mem

-- member i of the node at p
abbrev pub arg_at : Nodes → ℕ → ℕ → ℕ
arg_at a p i = get_or (mem_at a p) i 0

-- the element type of the option or set x
abbrev pub elem_at : Nodes → ℕ → ℕ
elem_at a x = arg_at a (type_at a x) 0

-- the width of the bitvector x
abbrev pub width_at : Nodes → ℕ → ℕ
width_at a x = par_at a (type_at a x)

-- record types and records have pairs as members
abbrev pub paired : ℕ → Bool
paired k = eqb k 5 || eqb k 21

-- the members that are positions, of a node of kind k
unfoldable pub positions : ℕ → List ℕ → List ℕ
positions k ms = cond (paired k) (odds ms) ms

abbrev pub args : Node → List ℕ
args n = positions n.kind n.mem

-- and those that are attributes
unfoldable pub keys : Node → List ℕ
keys n = cond (paired n.kind) (evens n.mem) []

-- a run of fields with each term's type in the term's place
unfoldable pub field_types : Nodes → List ℕ → List ℕ
field_types a [] = []
field_types a (x ∷ []) = []
field_types a (x ∷ y ∷ r) = x ∷ type_at a y ∷ field_types a r

-- ---- found or added

-- they have the same cells
unfoldable pub same : Node → Node → Bool
same m n = every (eqb m.kind n.kind ∷ eqb m.type n.type ∷ eqb m.par n.par ∷ same_list m.mem n.mem ∷ [])

unfoldable pub find : Nodes → Node → Option ℕ
find [] n = none
find (m ∷ a) n = elim (same m n) [ true ↦ some (mark a) | false ↦ find a n ]

-- the arena afterwards and a position in it
pub record Out : Type 0 where
  pub arena : Nodes
  pub at : ℕ

abbrev pub out : Nodes → ℕ → Out
out a p = record { arena = a; at = p }

unfoldable pub put_found : Nodes → Node → Option ℕ → Out
put_found a n (some p) = out a p
put_found a n none = out (n ∷ a) (mark a)

-- a node is looked for before it is added; a found one is reused
unfoldable pub put : Nodes → Node → Out
put a n = put_found a n (find a n)

-- one step after another
infixl 20 ◌⨟◌
abbrev pub ◌⨟◌ : Out → (Nodes → ℕ → Out) → Out
o ⨟ f = f o.arena o.at

-- ---- a fresh arena: Bool at 0, false at F, true at T

abbrev pub F : ℕ
F = 4

abbrev pub T : ℕ
T = 8

abbrev pub fresh : Nodes
fresh = node 16 0 1 [] ∷ node 16 0 0 [] ∷ node 1 0 0 [] ∷ []
