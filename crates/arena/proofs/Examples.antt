-- Arenas that the well-formedness test accepts, each beside one that differs in a single thing and is refused; and what the terms of one arena mean.
use mathlib.Core.Path.{◌≡◌, refl, sym, ◌∙◌}
use Prim.Native.Nat.{ℕ, zero, suc, ◌<◌}
use native.Mathlib.Omega.{arith}
use mathlib.Core.Bool.{Bool, true, false, not, cond}
use mathlib.Core.List.{List, [], ◌∷◌, ◌++◌}
use lib.ListN.{length, take}
use lib.Dec.{eqb, leb}
use borrow.Author.Tests.{leb-true, not-true}
use Rattle.smtlib.specs.Theory.{nat2bv, extract, all_ones, bvnot, bvneg, bvadd, bvmul, bvudiv, bvurem, bvshl, bvlshr, bvult, concat}
use Rattle.smtlib.specs.Logic.{by_top, by_tops, bvsub, bvsdiv, bvsrem, bvsmod, bvsmod_of, bvabs, bvule, bvslt, bvsle, top, zero_extend}
use Rattle.smtlib.specs.Overflow.{bv2int, outside, bvnego, bvsaddo, bvssubo, bvsmulo}
use Rattle.smtlib.specs.Numbered.{bvapp_of, bvcmp_of, bvso_of}
use Rattle.arena.specs.Lists.{every, all, any, same_list, evens, odds, field, holds_field, rising}
use Rattle.arena.specs.Nodes.{Node, node, Nodes, mark, over, node_at, positions, keys, field_types, same, find, fresh}
use Rattle.arena.specs.Cells.{cells, padded, parse_on, parse, used}
use Rattle.arena.specs.Walks.{ruled, walked, free_rule}
use Rattle.arena.specs.WellFormed.{field_run, placed, type_test, maker_test, core_test, bv_test, data_test, kind_test, good_node, is_fresh, starts_fresh, good_nodes, absent, distinct, well_formed, filled, clear, formed}
use Rattle.arena.specs.Values.{Value, bool, bits, vnone, vsome, vset, vrec, vnil, vcons, fnil, fcons, code, compare_t, compare_v, eq_v, lt_v, rising_v, insert_v, set_v, mem_v, subset_v, inter_v, rec_v, field_v, as_bool, as_bits, as_set, as_rec, value_or, all_v, fits, zero_of}
use Rattle.arena.specs.Meaning.{rec_ty, mk_ty, ty_node, ty_of, width, Interp, none_get, maker_means, core_means, bv_means, data_means, term, mean_node, meaning}
use Rattle.arena.proofs.Bools.{every-all, all-every}
use Rattle.arena.proofs.Ext.{mark-fresh}
use Rattle.arena.proofs.View.{tested}
use Rattle.arena.proofs.Formed.{test_wf, wf_test, fresh_wf, not_formed, next-formed}
use Rattle.arena.proofs.Padded.{padded-length, padded-formed}

-- ---- an arena with every kind of node

-- nodes added to an arena, the oldest first
build : Nodes → List Node → Nodes
build a [] = a
build a (n ∷ ns) = build (n ∷ a) ns

-- types, literals and variables: Bitvec 4 at 12 and 8 at 16, its Option at 20 and Set at 25, a Record at 30, 5 at 38, 3 at 42
base : Nodes
base =
    build fresh (node 2 0 4 []
    ∷ node 2 0 8 []
    ∷ node 3 0 0 (12 ∷ [])
    ∷ node 4 0 0 (12 ∷ [])
    ∷ node 5 0 0 (1 ∷ 0 ∷ 2 ∷ 12 ∷ [])
    ∷ node 17 12 5 []
    ∷ node 17 12 3 []
    ∷ node 18 20 0 []
    ∷ node 19 20 0 (38 ∷ [])
    ∷ node 20 25 0 (38 ∷ 42 ∷ [])
    ∷ node 21 30 0 (1 ∷ 8 ∷ 2 ∷ 38 ∷ [])
    -- variables: a Bool at 69, bitvectors at 73 and 77, an option at 81, a set at 85, a record at 89
    ∷ node 22 0 7 []
    ∷ node 22 12 8 []
    ∷ node 22 16 8 []
    ∷ node 22 20 9 []
    ∷ node 22 25 10 []
    ∷ node 22 30 11 []
    -- an Option of a Set at 93, a Set of the other width at 98 and a variable of it at 103
    ∷ node 3 0 0 (25 ∷ [])
    ∷ node 4 0 0 (16 ∷ [])
    ∷ node 22 98 12 []
    ∷ [])

two : ℕ → ℕ → Node
two k t = node k t 0 (38 ∷ 73 ∷ [])

-- applications, from 107 on
full : Nodes
full =
    build base (node 120 0 0 (69 ∷ [])
    ∷ node 121 0 0 (69 ∷ 107 ∷ [])
    ∷ node 122 0 0 (69 ∷ 107 ∷ [])
    ∷ two 124 0
    ∷ node 125 12 0 (69 ∷ 38 ∷ 73 ∷ [])
    ∷ node 126 0 3 (73 ∷ [])
    ∷ node 130 12 0 (73 ∷ [])
    ∷ two 131 12 ∷ two 132 12 ∷ two 133 12 ∷ two 134 12 ∷ two 135 12 ∷ two 136 12 ∷ two 137 12 ∷ two 138 12 ∷ two 139 12 ∷ two 140 12
    ∷ two 141 0 ∷ two 142 0 ∷ two 143 0 ∷ two 144 0
    ∷ node 145 0 0 (73 ∷ [])
    ∷ two 146 0 ∷ two 147 0 ∷ two 148 0
    ∷ node 149 16 4 (73 ∷ [])
    ∷ node 150 0 0 (73 ∷ 85 ∷ [])
    ∷ node 151 0 0 (55 ∷ 85 ∷ [])
    ∷ node 152 25 0 (55 ∷ 85 ∷ [])
    ∷ node 155 12 0 (81 ∷ [])
    ∷ node 156 12 2 (89 ∷ [])
    ∷ [])

-- ---- one table

-- cells and a mark that are accepted, and such that are refused; or only the last node over `base`, accepted and refused
pub data Row : Type 0 where
  against : List ℕ → ℕ → List ℕ → ℕ → Row
  last : Node → Node → Row

-- n Bool fields with the attributes from k on
fields : ℕ → ℕ → List ℕ
fields zero k = []
fields (suc n) k = k ∷ 0 ∷ fields n (suc k)

-- the cells of the smallest arena, and of the one with every kind
start : List ℕ
start = cells fresh

whole : List ℕ
whole = cells full

pub rows : List Row
rows =
    -- 12 cells or more, and a mark not above their number
    against start 12 (take 11 start) 11
    ∷ against start 12 start 13
    -- Bool, false and true stand first
    ∷ against start 12 (1 ∷ 0 ∷ 0 ∷ 0 ∷ 16 ∷ 0 ∷ 1 ∷ 0 ∷ 16 ∷ 0 ∷ 0 ∷ 0 ∷ []) 12
    ∷ against start 12 (take 8 start ++ (2 ∷ 0 ∷ 4 ∷ 0 ∷ [])) 12
    -- nodes fill the cells up to the mark exactly
    ∷ against (whole ++ (0 ∷ 0 ∷ [])) 287 whole 286
    ∷ against start 12 (start ++ (120 ∷ 0 ∷ 0 ∷ 1 ∷ [])) 16
    -- every cell from the mark on is 0
    ∷ against (start ++ (0 ∷ 0 ∷ [])) 12 (start ++ (0 ∷ 1 ∷ [])) 12
    -- a position is lower than the node's own, and a node starts there
    ∷ last (node 120 0 0 (69 ∷ [])) (node 120 0 0 (107 ∷ []))
    ∷ last (node 120 0 0 (69 ∷ [])) (node 120 0 0 (70 ∷ []))
    ∷ last (node 3 0 0 (20 ∷ [])) (node 3 0 0 (107 ∷ []))
    -- and of the right sort
    ∷ last (node 126 0 3 (69 ∷ [])) (node 126 0 3 (12 ∷ []))
    ∷ last (node 22 12 1 []) (node 22 38 1 [])
    ∷ last (node 3 0 0 (20 ∷ [])) (node 3 0 0 (38 ∷ []))
    ∷ last (node 5 0 0 (1 ∷ 12 ∷ [])) (node 5 0 0 (1 ∷ 38 ∷ []))
    ∷ last (node 21 30 0 (1 ∷ 69 ∷ 2 ∷ 38 ∷ [])) (node 21 30 0 (1 ∷ 69 ∷ 2 ∷ 12 ∷ []))
    -- a type's type cell is 0
    ∷ last (node 3 0 0 (20 ∷ [])) (node 3 12 0 (20 ∷ []))
    -- kinds
    ∷ last (node 2 0 5 []) (node 6 0 5 [])
    ∷ last (node 22 0 5 []) (node 23 0 5 [])
    ∷ last (node 122 0 0 (69 ∷ 4 ∷ [])) (node 123 0 0 (69 ∷ 4 ∷ []))
    ∷ last (node 155 12 0 (81 ∷ [])) (node 153 0 0 (85 ∷ []))
    ∷ last (node 151 0 0 (85 ∷ 55 ∷ [])) (node 154 0 0 (85 ∷ 55 ∷ []))
    ∷ last (node 156 12 2 (89 ∷ [])) (node 157 12 2 (89 ∷ []))
    -- widths are 1 to 64, a literal is below 2 to its width, a bool literal 0 or 1
    ∷ last (node 2 0 1 []) (node 2 0 0 [])
    ∷ last (node 2 0 64 []) (node 2 0 65 [])
    ∷ last (node 17 12 15 []) (node 17 12 16 [])
    ∷ last (node 2 0 9 []) (node 16 0 2 [])
    -- counts
    ∷ last (node 3 0 0 (20 ∷ [])) (node 3 0 0 (20 ∷ 20 ∷ []))
    ∷ last (node 19 20 0 (42 ∷ [])) (node 19 20 0 [])
    ∷ last (node 121 0 0 (69 ∷ 4 ∷ [])) (node 121 0 0 (69 ∷ 4 ∷ 4 ∷ []))
    ∷ last (node 125 12 0 (69 ∷ 38 ∷ 42 ∷ [])) (node 125 12 0 (69 ∷ 38 ∷ []))
    -- an unused parameter is 0, an id or attribute below 2^32
    ∷ last (node 19 20 0 (42 ∷ [])) (node 19 20 1 (42 ∷ []))
    ∷ last (two 131 12) (node 131 12 1 (38 ∷ 73 ∷ []))
    ∷ last (node 22 0 4294967295 []) (node 22 0 4294967296 [])
    ∷ last (node 126 0 4294967295 (73 ∷ [])) (node 126 0 4294967296 (73 ∷ []))
    ∷ last (node 5 0 0 (4294967295 ∷ 0 ∷ [])) (node 5 0 0 (4294967296 ∷ 0 ∷ []))
    -- a set's element type contains no set at any depth
    ∷ last (node 4 0 0 (20 ∷ [])) (node 4 0 0 (25 ∷ []))
    ∷ last (node 4 0 0 (20 ∷ [])) (node 4 0 0 (93 ∷ []))
    -- a term has the type that its kind asks for
    ∷ last (node 17 16 5 []) (node 17 20 5 [])
    ∷ last (node 18 93 0 []) (node 18 12 0 [])
    ∷ last (node 19 20 0 (73 ∷ [])) (node 19 20 0 (77 ∷ []))
    ∷ last (node 20 25 0 (38 ∷ 73 ∷ [])) (node 20 25 0 (38 ∷ 77 ∷ []))
    ∷ last (node 21 30 0 (1 ∷ 4 ∷ 2 ∷ 38 ∷ [])) (node 21 30 0 (1 ∷ 4 ∷ 3 ∷ 38 ∷ []))
    ∷ last (node 21 30 0 (1 ∷ 4 ∷ 2 ∷ 38 ∷ [])) (node 21 30 0 (1 ∷ 4 ∷ 2 ∷ 77 ∷ []))
    -- and so have its operands
    ∷ last (node 120 0 0 (69 ∷ [])) (node 120 0 0 (73 ∷ []))
    ∷ last (node 120 0 0 (69 ∷ [])) (node 120 12 0 (69 ∷ []))
    ∷ last (node 122 0 0 (69 ∷ 4 ∷ [])) (node 122 0 0 (69 ∷ 38 ∷ []))
    ∷ last (two 124 0) (node 124 0 0 (38 ∷ 77 ∷ []))
    ∷ last (node 125 12 0 (69 ∷ 38 ∷ 73 ∷ [])) (node 125 12 0 (69 ∷ 38 ∷ 77 ∷ []))
    ∷ last (two 131 12) (node 131 12 0 (38 ∷ 77 ∷ []))
    ∷ last (two 140 12) (two 140 16)
    ∷ last (two 141 0) (two 141 12)
    ∷ last (two 148 0) (node 148 0 0 (38 ∷ 77 ∷ []))
    ∷ last (node 145 0 0 (73 ∷ [])) (node 145 0 0 (69 ∷ []))
    ∷ last (node 149 16 4 (73 ∷ [])) (node 149 16 5 (73 ∷ []))
    ∷ last (node 150 0 0 (73 ∷ 85 ∷ [])) (node 150 0 0 (77 ∷ 85 ∷ []))
    ∷ last (node 151 0 0 (85 ∷ 55 ∷ [])) (node 151 0 0 (85 ∷ 103 ∷ []))
    ∷ last (node 152 25 0 (85 ∷ 55 ∷ [])) (node 152 98 0 (85 ∷ 55 ∷ []))
    ∷ last (node 155 12 0 (81 ∷ [])) (node 155 16 0 (81 ∷ []))
    ∷ last (node 156 12 2 (89 ∷ [])) (node 156 0 2 (89 ∷ []))
    ∷ last (node 156 12 2 (89 ∷ [])) (node 156 12 3 (89 ∷ []))
    -- set members and record attributes strictly rise, in whole pairs
    ∷ last (node 20 25 0 (38 ∷ 73 ∷ [])) (node 20 25 0 (73 ∷ 38 ∷ []))
    ∷ last (node 20 25 0 (38 ∷ [])) (node 20 25 0 (38 ∷ 38 ∷ []))
    ∷ last (node 5 0 0 (1 ∷ 0 ∷ 2 ∷ 0 ∷ [])) (node 5 0 0 (2 ∷ 0 ∷ 1 ∷ 0 ∷ []))
    ∷ last (node 5 0 0 (1 ∷ 0 ∷ 2 ∷ 0 ∷ [])) (node 5 0 0 (1 ∷ 0 ∷ 1 ∷ 0 ∷ []))
    ∷ last (node 5 0 0 (1 ∷ 0 ∷ 2 ∷ 0 ∷ [])) (node 5 0 0 (1 ∷ 0 ∷ 2 ∷ []))
    -- 64 fields
    ∷ last (node 5 0 0 (fields 64 1)) (node 5 0 0 (fields 65 1))
    -- no two nodes have the same cells
    ∷ last (node 2 0 7 []) (node 2 0 8 [])
    ∷ last (node 17 12 4 []) (node 17 12 3 [])
    ∷ []

-- the last node may follow
follows : Node → Bool
follows n = every (good_node base n ∷ absent base n ∷ leb (mark (n ∷ base)) 400 ∷ [])

holds : Row → Bool
holds (against c m d n) = every (formed c m ∷ not (formed d n) ∷ [])
holds (last n m) = every (follows n ∷ not (every (good_node base m ∷ absent base m ∷ [])) ∷ leb (mark (m ∷ base)) 400 ∷ [])

hold : List Row → Bool
hold [] = true
hold (r ∷ rs) = every (holds r ∷ hold rs ∷ [])

rows_hold : hold rows ≡ true
unfolding every all any same_list evens odds field holds_field rising mark over node_at positions field_types same find cells parse_on parse used ruled walked free_rule field_run placed type_test maker_test core_test bv_test data_test kind_test good_node is_fresh starts_fresh good_nodes absent distinct well_formed filled clear formed build base two full start whole fields rows follows holds hold
rows_hold = refl

base_holds : well_formed base ≡ true
unfolding every all any same_list evens odds field holds_field rising mark over node_at positions field_types same find cells parse_on parse used ruled walked free_rule field_run placed type_test maker_test core_test bv_test data_test kind_test good_node is_fresh starts_fresh good_nodes absent distinct well_formed filled clear formed build base two full start whole fields rows follows holds hold
base_holds = refl

-- 400 cells that end with the node
lent : Node → Bool
lent n = formed (padded 400 (n ∷ base)) (mark (n ∷ base))

lent_is : (n : Node) → leb (mark (n ∷ base)) 400 ≡ true → lent n ≡ every (good_node base n ∷ absent base n ∷ [])
unfolding lent
lent_is n h = padded-formed 400 (n ∷ base) (leb-true _ _ h) (omega arith) ∙ next-formed (test_wf base base_holds) n

-- so the test accepts the one and refuses the other
pub Says : Row → Type 0
Says (against c m d n) = (formed c m ≡ true) × (formed d n ≡ false)
Says (last n m) = (lent n ≡ true) × (lent m ≡ false)

pub AllSay : List Row → Type 0
AllSay [] = Unit {0}
AllSay (r ∷ rs) = Says r × AllSay rs

says : (r : Row) → holds r ≡ true → Says r
unfolding holds follows Says
says (against c m d n) e = let w = every-all _ e in (w.0, not-true _ w.1.0)
says (last n m) e =
    let w = every-all _ e in
    let v = every-all _ w.0 in
    (lent_is n v.1.1.0 ∙ all-every _ (v.0, (v.1.0, tt)), lent_is m w.1.1.0 ∙ not-true _ w.1.0)

all_say : (rs : List Row) → hold rs ≡ true → AllSay rs
unfolding hold AllSay
all_say [] e = tt
all_say (r ∷ rs) e = let w = every-all _ e in (says r w.0, all_say rs w.1.0)

-- each row of the table
pub rows_say : AllSay rows
rows_say = all_say rows rows_hold

-- ---- what the terms of the arena mean

-- the variables: true, 9, some of 9, the set of 9, and a record; every function is zero
sample : Interp
sample = record {
  var = λ id t. cond (eqb id 7) (bool true) (cond (eqb id 8) (bits 9) (cond (eqb id 9) (vsome (bits 9)) (cond (eqb id 10) (vset (vcons (bits 9) vnil)) (cond (eqb id 11) (vrec (fcons 1 (bool true) (fcons 2 (bits 9) fnil))) (zero_of t)))));
  fun = λ id t u v. zero_of u;
}

-- positions of `full` and what stands there means; the bitvectors are 5 and 9, which is -7
pub meanings : List (ℕ × Value)
meanings =
    (4, bool false) ∷ (38, bits 5) ∷ (46, vnone) ∷ (50, vsome (bits 5))
    ∷ (55, vset (vcons (bits 3) (vcons (bits 5) vnil)))
    ∷ (61, vrec (fcons 1 (bool true) (fcons 2 (bits 5) fnil)))
    -- not, and, or, eq, ite, uninterpreted
    ∷ (107, bool false) ∷ (112, bool false) ∷ (118, bool true) ∷ (124, bool false) ∷ (130, bits 5) ∷ (137, bool false)
    -- neg, add, sub, mul, sdiv, udiv, srem, smod, urem, shl, lshr
    ∷ (142, bits 7) ∷ (147, bits 14) ∷ (153, bits 12) ∷ (159, bits 13) ∷ (165, bits 0) ∷ (171, bits 0) ∷ (177, bits 5) ∷ (183, bits 14) ∷ (189, bits 5) ∷ (195, bits 0) ∷ (201, bits 0)
    -- slt, sle, ult, ule, nego, saddo, ssubo, smulo, zero_extend
    ∷ (207, bool false) ∷ (213, bool false) ∷ (219, bool true) ∷ (225, bool true) ∷ (231, bool false) ∷ (236, bool false) ∷ (242, bool true) ∷ (248, bool true) ∷ (254, bits 9)
    -- member, subset, inter, option_get, record_get
    ∷ (259, bool true) ∷ (265, bool false) ∷ (271, vset vnil) ∷ (277, bits 9) ∷ (282, bits 9)
    ∷ []

pub meant : List (ℕ × Value) → Bool
meant [] = true
meant (e ∷ es) = every (eq_v (meaning sample full e.0) e.1 ∷ meant es ∷ [])

pub meanings_hold : meant meanings ≡ true
unfolding evens odds mark over node_at positions keys compare_t compare_v eq_v lt_v rising_v insert_v set_v mem_v subset_v inter_v rec_v field_v as_bool as_bits as_set as_rec value_or all_v code fits zero_of rec_ty mk_ty ty_node ty_of width none_get maker_means core_means bv_means data_means term mean_node meaning nat2bv extract concat all_ones bvnot bvneg bvadd bvmul bvudiv bvurem bvshl bvlshr bvult top by_top by_tops bvsub bvsdiv bvsrem bvabs bvsmod_of bvsmod bvule bvslt bvsle zero_extend bv2int outside bvnego bvsaddo bvssubo bvsmulo bvapp_of bvcmp_of bvso_of every build base two full sample meanings meant
meanings_hold = refl

-- ---- limits that no small table shows

-- 65,536 cells, and one more
pub longest : (formed (padded 65536 fresh) (mark fresh) ≡ true) × (formed (padded 65537 fresh) (mark fresh) ≡ false)
longest =
    let m = mark-fresh in (
      padded-formed 65536 fresh (omega arith) (omega arith) ∙ wf_test fresh_wf,
      sym (not_formed (padded 65537 fresh) (mark fresh) (λ A. let l = padded-length 65537 fresh (omega arith) in let s = A.below.short in omega arith)),
    )

-- a set of more than 256 members, over any nodes
pub too_many : (a : Nodes) (t : ℕ) (ms : List ℕ) → 256 < length ms → good_node a (node 20 t 0 ms) ≡ false
unfolding kind_test maker_test
too_many a t ms h = go (good_node a (node 20 t 0 ms)) refl
  where
    go : (b : Bool) → good_node a (node 20 t 0 ms) ≡ b → good_node a (node 20 t 0 ms) ≡ false
    go false e = e
    go true e = let l = leb-true (length ms) 256 (every-all _ (tested a (node 20 t 0 ms) e)).0 in absurd (omega arith)
