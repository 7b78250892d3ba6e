-- The flat cells of an arena, and the arena of flat cells.
use Rattle.std.specs.Prelude.{ℕ, zero, suc, ◌+◌, ◌-◌, List, [], ◌∷◌, ◌++◌, length, take, drop, get_or, replicate}
use Rattle.std.proofs.Math.Option.{Option, none, some}
use Rattle.arena.specs.Nodes.{Node, node, Nodes, header, mark}

-- kind, type, parameter, count of members, members
abbrev pub cells_of : Node → List ℕ
cells_of n = n.kind ∷ n.type ∷ n.par ∷ length n.mem ∷ n.mem

unfoldable pub cells : Nodes → List ℕ
cells [] = []
cells (n ∷ a) = cells a ++ cells_of n

-- the cells of an arena of n cells
abbrev pub padded : ℕ → Nodes → List ℕ
padded n a = cells a ++ replicate (n - mark a) 0

-- the walk through the cells: a is read, and the next `skip` cells are members of its newest node
unfoldable pub parse_on : Nodes → ℕ → List ℕ → Option Nodes
parse_on a zero [] = some a
parse_on a zero (k ∷ []) = none
parse_on a zero (k ∷ t ∷ []) = none
parse_on a zero (k ∷ t ∷ p ∷ []) = none
parse_on a zero (k ∷ t ∷ p ∷ n ∷ r) = parse_on (node k t p (take n r) ∷ a) n r
parse_on a (suc skip) [] = none
parse_on a (suc skip) (x ∷ r) = parse_on a skip r

-- the nodes that fill the cells exactly
unfoldable pub parse : List ℕ → Option Nodes
parse c = parse_on [] 0 c

-- the arena in the cells below the mark m
unfoldable pub used : List ℕ → ℕ → Nodes
used c m = elim (parse (take m c)) [ none ↦ [] | some a ↦ a ]

-- the node whose first cell is at q
unfoldable pub node_here : List ℕ → ℕ → Node
node_here c q = node (get_or c q 0) (get_or c (q + 1) 0) (get_or c (q + 2) 0) (take (get_or c (q + 3) 0) (drop (q + header) c))

-- where the node after it starts
abbrev pub after : List ℕ → ℕ → ℕ
after c q = q + (header + get_or c (q + 3) 0)
