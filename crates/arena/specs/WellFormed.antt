-- When an arena is well formed, clause by clause as document 01 says it. Every test computes.
use Rattle.std.specs.Prelude.{◌≡◌, ℕ, ◌+◌, ◌^◌, ◌%◌, ◌≤◌, Bool, true, false, cond, ◌||◌, List, [], ◌∷◌, length, get_or, take, drop, eqb, leb, ltb}
use Rattle.std.proofs.Math.Option.{none, some}
use Rattle.arena.specs.Lists.{every, within, all, same_list, evens, holds_field, rising}
use Rattle.arena.specs.Nodes.{Node, node, Nodes, kind_at, type_at, par_at, mem_at, arg_at, elem_at, width_at, positions, field_types, same, find}
use Rattle.arena.specs.Cells.{parse, used}
use Rattle.arena.specs.Walks.{set_free}

-- ---- limits

-- cells that the caller lends
abbrev pub fewest : ℕ
fewest = 12

abbrev pub most : ℕ
most = 65536

-- attributes and ids
abbrev pub small : ℕ → Bool
small k = ltb k 4294967296

-- a run of fields: whole pairs, at most 64, whose attributes are small and strictly rise
unfoldable pub field_run : List ℕ → Bool
field_run r = every (eqb (length r % 2) 0 ∷ leb (length r) 128 ∷ rising (evens r) ∷ all small (evens r) ∷ [])

-- ---- every position in a node is lower than the node's own, and of the right sort

-- the start of a type
abbrev pub is_type : Nodes → ℕ → Bool
is_type a p = within 1 15 (kind_at a p)

-- the start of a term
abbrev pub is_term : Nodes → ℕ → Bool
is_term a p = leb 16 (kind_at a p)

-- a node of kind k, type cell t and members ms over the nodes before it: a type has type cell 0 and types as members, a term has a type and terms
unfoldable pub placed : Nodes → ℕ → ℕ → List ℕ → Bool
placed a k t ms =
    cond (leb k 15) (every (eqb t 0 ∷ all (is_type a) (positions k ms) ∷ []))
    (every (is_type a t ∷ all (is_term a) (positions k ms) ∷ []))

-- ---- types, counts and parameters: tests on a node's numbers, k its kind, t its type, p its parameter, ms its members, x y z the first three

-- the node at t is of kind k
abbrev pub kind_is : Nodes → ℕ → ℕ → Bool
kind_is a t k = eqb (kind_at a t) k

-- the term x is of the type at t
abbrev pub type_is : Nodes → ℕ → ℕ → Bool
type_is a x t = eqb (type_at a x) t

-- the term x is of a type of kind k
abbrev pub sort_is : Nodes → ℕ → ℕ → Bool
sort_is a x k = kind_is a (type_at a x) k

-- 1 Bool, 2 Bitvec, 3 Option, 4 Set, 5 Record
unfoldable pub type_test : Nodes → ℕ → ℕ → List ℕ → ℕ → Bool
type_test a k p ms x =
    cond (eqb k 1) (every (eqb (length ms) 0 ∷ eqb p 0 ∷ []))
    (cond (eqb k 2) (every (eqb (length ms) 0 ∷ leb 1 p ∷ leb p 64 ∷ []))
    (cond (eqb k 3) (every (eqb (length ms) 1 ∷ eqb p 0 ∷ []))
    (cond (eqb k 4) (every (eqb (length ms) 1 ∷ eqb p 0 ∷ set_free a x ∷ []))
    (every (eqb k 5 ∷ eqb p 0 ∷ field_run ms ∷ [])))))

-- 16 bool literal, 17 bitvec literal, 18 None, 19 Some, 20 Set, 21 Record, 22 variable
unfoldable pub maker_test : Nodes → ℕ → ℕ → ℕ → List ℕ → ℕ → Bool
maker_test a k t p ms x =
    cond (eqb k 16) (every (eqb (length ms) 0 ∷ leb p 1 ∷ eqb t 0 ∷ []))
    (cond (eqb k 17) (every (eqb (length ms) 0 ∷ kind_is a t 2 ∷ ltb p (2 ^ par_at a t) ∷ []))
    (cond (eqb k 18) (every (eqb (length ms) 0 ∷ eqb p 0 ∷ kind_is a t 3 ∷ []))
    (cond (eqb k 19) (every (eqb (length ms) 1 ∷ eqb p 0 ∷ kind_is a t 3 ∷ type_is a x (arg_at a t 0) ∷ []))
    (cond (eqb k 20) (every (leb (length ms) 256 ∷ eqb p 0 ∷ kind_is a t 4 ∷ rising ms ∷ all (λ x. type_is a x (arg_at a t 0)) ms ∷ []))
    (cond (eqb k 21) (every (field_run ms ∷ eqb p 0 ∷ kind_is a t 5 ∷ same_list (mem_at a t) (field_types a ms) ∷ []))
    (every (eqb k 22 ∷ eqb (length ms) 0 ∷ small p ∷ [])))))))

-- 120 not, 121 and, 122 or, 124 eq, 125 ite, 126 uninterpreted; n counts the members
unfoldable pub core_test : Nodes → ℕ → ℕ → ℕ → ℕ → ℕ → ℕ → ℕ → Bool
core_test a k t p n x y z =
    cond (eqb k 120) (every (eqb n 1 ∷ eqb p 0 ∷ eqb t 0 ∷ type_is a x 0 ∷ []))
    (cond (eqb k 121) (every (eqb n 2 ∷ eqb p 0 ∷ eqb t 0 ∷ type_is a x 0 ∷ type_is a y 0 ∷ []))
    (cond (eqb k 122) (every (eqb n 2 ∷ eqb p 0 ∷ eqb t 0 ∷ type_is a x 0 ∷ type_is a y 0 ∷ []))
    (cond (eqb k 124) (every (eqb n 2 ∷ eqb p 0 ∷ eqb t 0 ∷ type_is a y (type_at a x) ∷ []))
    (cond (eqb k 125) (every (eqb n 3 ∷ eqb p 0 ∷ type_is a x 0 ∷ type_is a y t ∷ type_is a z t ∷ []))
    (every (eqb k 126 ∷ eqb n 1 ∷ small p ∷ []))))))

-- 130 neg, 131 to 140 with a bitvector, 141 to 148 with a Bool (145 nego has one operand), 149 zero_extend
unfoldable pub bv_test : Nodes → ℕ → ℕ → ℕ → ℕ → ℕ → ℕ → Bool
bv_test a k t p n x y =
    cond (eqb k 130) (every (eqb n 1 ∷ eqb p 0 ∷ kind_is a t 2 ∷ type_is a x t ∷ []))
    (cond (leb k 140) (every (eqb n 2 ∷ eqb p 0 ∷ kind_is a t 2 ∷ type_is a x t ∷ type_is a y t ∷ []))
    (cond (eqb k 145) (every (eqb n 1 ∷ eqb p 0 ∷ eqb t 0 ∷ sort_is a x 2 ∷ []))
    (cond (eqb k 149) (every (eqb n 1 ∷ kind_is a t 2 ∷ sort_is a x 2 ∷ eqb (par_at a t) (width_at a x + p) ∷ []))
    (every (eqb n 2 ∷ eqb p 0 ∷ eqb t 0 ∷ sort_is a x 2 ∷ type_is a y (type_at a x) ∷ [])))))

-- 150 member, 151 subset, 152 inter, 155 option_get, 156 record_get
unfoldable pub data_test : Nodes → ℕ → ℕ → ℕ → ℕ → ℕ → ℕ → Bool
data_test a k t p n x y =
    cond (eqb k 150) (every (eqb n 2 ∷ eqb p 0 ∷ eqb t 0 ∷ sort_is a y 4 ∷ type_is a x (elem_at a y) ∷ []))
    (cond (eqb k 151) (every (eqb n 2 ∷ eqb p 0 ∷ eqb t 0 ∷ sort_is a x 4 ∷ type_is a y (type_at a x) ∷ []))
    (cond (eqb k 152) (every (eqb n 2 ∷ eqb p 0 ∷ kind_is a t 4 ∷ type_is a x t ∷ type_is a y t ∷ []))
    (cond (eqb k 155) (every (eqb n 1 ∷ eqb p 0 ∷ sort_is a x 3 ∷ eqb (elem_at a x) t ∷ []))
    (every (eqb k 156 ∷ eqb n 1 ∷ small p ∷ sort_is a x 5 ∷ holds_field (mem_at a (type_at a x)) p t ∷ [])))))

-- by ranges of kinds
unfoldable pub kind_test : Nodes → ℕ → ℕ → ℕ → List ℕ → ℕ → ℕ → ℕ → Bool
kind_test a k t p ms x y z =
    cond (leb k 15) (type_test a k p ms x)
    (cond (leb k 99) (maker_test a k t p ms x)
    (cond (leb k 129) (core_test a k t p (length ms) x y z)
    (cond (leb k 149) (bv_test a k t p (length ms) x y)
    (data_test a k t p (length ms) x y))))

-- a node over the nodes before it
unfoldable pub good_node : Nodes → Node → Bool
good_node a n =
    every (placed a n.kind n.type n.mem ∷ kind_test a n.kind n.type n.par n.mem (get_or n.mem 0 0) (get_or n.mem 1 0) (get_or n.mem 2 0) ∷ [])

-- ---- the whole arena

-- Bool, false and true stand first
unfoldable pub is_fresh : Nodes → Bool
is_fresh [] = false
is_fresh (x ∷ []) = false
is_fresh (x ∷ y ∷ []) = false
is_fresh (x ∷ y ∷ z ∷ []) = every (same x (node 16 0 1 []) ∷ same y (node 16 0 0 []) ∷ same z (node 1 0 0 []) ∷ [])
is_fresh (x ∷ y ∷ z ∷ w ∷ r) = false

unfoldable pub starts_fresh : Nodes → Bool
starts_fresh [] = false
starts_fresh (n ∷ a) = is_fresh (n ∷ a) || starts_fresh a

-- every node is good over the nodes before it
unfoldable pub good_nodes : Nodes → Bool
good_nodes [] = true
good_nodes (n ∷ a) = every (good_node a n ∷ good_nodes a ∷ [])

-- no node has these cells
unfoldable pub absent : Nodes → Node → Bool
absent a n = elim (find a n) [ none ↦ true | some p ↦ false ]

-- no two nodes have the same cells
unfoldable pub distinct : Nodes → Bool
distinct [] = true
distinct (n ∷ a) = every (absent a n ∷ distinct a ∷ [])

unfoldable pub well_formed : Nodes → Bool
well_formed a = every (starts_fresh a ∷ good_nodes a ∷ distinct a ∷ [])

-- ---- lent cells and a mark

-- nodes fill the cells below the mark exactly
unfoldable pub filled : List ℕ → ℕ → Bool
filled c m = elim (parse (take m c)) [ none ↦ false | some a ↦ true ]

-- every cell from the mark on is 0
unfoldable pub clear : List ℕ → ℕ → Bool
clear c m = all (λ x. eqb x 0) (drop m c)

-- refusal 1 is given exactly where this fails
unfoldable pub formed : List ℕ → ℕ → Bool
formed c m = every (within fewest most (length c) ∷ leb m (length c) ∷ filled c m ∷ well_formed (used c m) ∷ clear c m ∷ [])

-- the cells below m are a well-formed arena
pub record Below (c : List ℕ) (m : ℕ) : Type 0 where
  pub least : fewest ≤ m
  pub fits : m ≤ length c
  pub short : length c ≤ most
  pub reads : parse (take m c) ≡ some (used c m)
  pub well : well_formed (used c m) ≡ true

-- what is known of a well-formed arena: the same as `formed c m ≡ true`
pub record IsArena (c : List ℕ) (m : ℕ) : Type 0 where
  pub below : Below c m
  pub zeros : clear c m ≡ true
