-- P1 to P12 of document 01 as one table, with one statement about it. Each row: the arena's length, the instructions, the answers, and the node at one position afterwards.
use mathlib.Core.Path.{◌≡◌, refl}
use Prim.Native.Nat.{ℕ}
use mathlib.Core.Bool.{Bool, true, false, ◌&&◌}
use mathlib.Core.List.{List, [], ◌∷◌}
use lib.Dec.{eqb}
use lib.ListN.{length}
use Rattle.smtlib.specs.Theory.{nat2bv, extract, concat, all_ones, bvnot, bvneg, bvadd, bvmul, bvudiv, bvurem, bvshl, bvlshr, bvult}
use Rattle.smtlib.specs.Logic.{top, by_tops, bvsub, bvsdiv, bvsrem, bvabs, bvsmod_of, bvsmod, bvule, by_top, bvslt, bvsle, zero_extend}
use Rattle.smtlib.specs.Overflow.{bv2int, outside, bvnego, bvsaddo, bvssubo, bvsmulo}
use Rattle.smtlib.specs.Numbered.{bvapp_of, bvcmp_of, bvso_of}
use Rattle.arena.specs.Lists.{every, all, any, same_list, evens, odds, field, field_d, holds_field, rising, insert, sorted, common, put_field, fields_of}
use Rattle.arena.specs.Nodes.{Node, node, Nodes, fresh, mark, over, node_at, positions, keys, field_types, same, find, put_found, put}
use Rattle.arena.specs.Cells.{cells, parse_on, parse, used, node_here}
use Rattle.arena.specs.Walks.{ruled, walked, lit_rule, free_rule}
use Rattle.arena.specs.WellFormed.{field_run, placed, type_test, maker_test, core_test, bv_test, data_test, kind_test, good_node, is_fresh, starts_fresh, good_nodes, absent, distinct, well_formed, filled, clear, formed}
use Rattle.factory.specs.Makers.{none_of, some_of, set_of, record_of}
use Rattle.factory.specs.Core.{junction, ite_of_somes, not_t, opposites, and_t, or_t, implies, eq_simplify, eq_t, ite_simplify, ite_t, uninterpreted}
use Rattle.factory.specs.Bitvectors.{bvneg_t, bvapp_t, bvcmp_t, bvnego_t, bvso_t, extended_to, zero_extend_t}
use Rattle.factory.specs.SetSteps.{is_nil, set_member, set_subset, set_inter, set_is_empty, not_empty, set_intersects, option_get, record_get}
use Rattle.factory.specs.Helpers.{or_some, or_none, eq_none, is_none_ite, is_none, is_some, if_false, if_true, none_or, guarded, if_some, or_is_none, any_none_on, any_none, if_all_some}
use Rattle.compiler.specs.Compiler.{compiled_not, neg_unless, compiled_neg, compiled_is_empty, gotten, inner, if_all_given, record_if_all, compiled_record, has_some, compiled_has_attr, optioned, compiled_get_attr}
use Rattle.instruction.specs.Instruction.{Instr}
use Rattle.table.specs.Table.{table, row_of, known, row}
use Rattle.table.specs.Call.{Reply, ok, refused, count_ok, too_many, sort_ok, sorts_ok, operands_ok, first_of, tests, refusal, fitted, call, call_on}

abbrev instr : ℕ → ℕ → List ℕ → Instr
instr o p xs = record { op = o; par = p; count = length xs; operands = xs }

data Example : Type 0 where
  example : ℕ → List Instr → List Reply → ℕ → Node → Example

unfoldable same_reply : Reply → Reply → Bool
same_reply (ok p m) (ok q n) = eqb p q && eqb m n
same_reply (ok p m) (refused n) = false
same_reply (refused m) (ok q n) = false
same_reply (refused m) (refused n) = eqb m n

unfoldable runs : ℕ → Nodes → List Instr → List Reply → ℕ → Node → Bool
runs cap a [] [] p n = same (node_at a p) n
runs cap a [] (r ∷ rs) p n = false
runs cap a (i ∷ is) [] p n = false
runs cap a (i ∷ is) (r ∷ rs) p n = let d = call cap a i in same_reply d.reply r && runs cap d.after is rs p n

unfoldable holds : List Example → Bool
holds [] = true
holds (example cap is rs p n ∷ es) = runs cap fresh is rs p n && holds es

unfoldable examples : List Example
examples =
    -- P1 in 20 cells
    example 20 (instr 2 64 [] ∷ instr 11 5 (12 ∷ []) ∷ [])
    (ok 12 16 ∷ ok 16 20 ∷ [])
    16 (node 17 12 5 [])
    ∷  -- P1 in 19 cells
    example 19 (instr 2 64 [] ∷ instr 11 5 (12 ∷ []) ∷ [])
    (ok 12 16 ∷ refused 9 ∷ [])
    12 (node 2 0 64 [])
    ∷  -- P2
    example 8192 (instr 2 64 [] ∷ instr 11 9223372036854775808 (12 ∷ []) ∷ instr 71 0 (16 ∷ []) ∷ [])
    (ok 12 16 ∷ ok 16 20 ∷ ok 25 34 ∷ [])
    25 (node 18 20 0 [])
    ∷  -- P3
    example 8192 (instr 2 64 [] ∷ instr 16 1 (12 ∷ []) ∷ instr 16 2 (12 ∷ []) ∷ instr 13 0 (16 ∷ []) ∷ instr 13 0 (20 ∷ []) ∷ instr 24 0 (29 ∷ 34 ∷ []) ∷ [])
    (ok 12 16 ∷ ok 16 20 ∷ ok 20 24 ∷ ok 29 34 ∷ ok 34 39 ∷ ok 39 45 ∷ [])
    39 (node 124 0 0 (16 ∷ 20 ∷ []))
    ∷  -- P4
    example 8192 (instr 2 64 [] ∷ instr 16 1 (12 ∷ []) ∷ instr 16 2 (12 ∷ []) ∷ instr 13 0 (16 ∷ []) ∷ instr 13 0 (20 ∷ []) ∷ instr 13 0 (29 ∷ []) ∷ instr 13 0 (34 ∷ []) ∷ instr 24 0 (44 ∷ 49 ∷ []) ∷ [])
    (ok 12 16 ∷ ok 16 20 ∷ ok 20 24 ∷ ok 29 34 ∷ ok 34 39 ∷ ok 44 49 ∷ ok 49 54 ∷ ok 54 60 ∷ [])
    54 (node 124 0 0 (29 ∷ 34 ∷ []))
    ∷  -- P5
    example 8192 (instr 2 64 [] ∷ instr 16 3 (0 ∷ []) ∷ instr 16 1 (12 ∷ []) ∷ instr 16 2 (12 ∷ []) ∷ instr 13 0 (20 ∷ []) ∷ instr 13 0 (24 ∷ []) ∷ instr 13 0 (33 ∷ []) ∷ instr 13 0 (38 ∷ []) ∷ instr 25 0 (16 ∷ 48 ∷ 53 ∷ []) ∷ instr 55 0 (65 ∷ []) ∷ instr 60 0 (58 ∷ []) ∷ [])
    (ok 12 16 ∷ ok 16 20 ∷ ok 20 24 ∷ ok 24 28 ∷ ok 33 38 ∷ ok 38 43 ∷ ok 48 53 ∷ ok 53 58 ∷ ok 65 70 ∷ ok 58 70 ∷ ok 4 70 ∷ [])
    4 (node 16 0 0 [])
    ∷  -- P6
    example 8192 (instr 2 1 [] ∷ instr 11 1 (12 ∷ []) ∷ instr 11 0 (12 ∷ []) ∷ instr 41 0 (16 ∷ 20 ∷ []) ∷ instr 43 0 (16 ∷ 20 ∷ []) ∷ instr 45 0 (16 ∷ []) ∷ [])
    (ok 12 16 ∷ ok 16 20 ∷ ok 20 24 ∷ ok 8 24 ∷ ok 4 24 ∷ ok 8 24 ∷ [])
    8 (node 16 0 1 [])
    ∷  -- P7
    example 8192 (instr 2 4 [] ∷ instr 11 7 (12 ∷ []) ∷ instr 11 0 (12 ∷ []) ∷ instr 11 9 (12 ∷ []) ∷ instr 11 3 (12 ∷ []) ∷ instr 35 0 (16 ∷ 20 ∷ []) ∷ instr 38 0 (16 ∷ 20 ∷ []) ∷ instr 34 0 (16 ∷ 20 ∷ []) ∷ instr 34 0 (24 ∷ 20 ∷ []) ∷ [])
    (ok 12 16 ∷ ok 16 20 ∷ ok 20 24 ∷ ok 24 28 ∷ ok 28 32 ∷ ok 32 36 ∷ ok 16 36 ∷ ok 32 36 ∷ ok 36 40 ∷ [])
    36 (node 17 12 1 [])
    ∷  -- P8
    example 8192 (instr 2 4 [] ∷ instr 11 9 (12 ∷ []) ∷ instr 11 3 (12 ∷ []) ∷ instr 36 0 (16 ∷ 20 ∷ []) ∷ instr 37 0 (16 ∷ 20 ∷ []) ∷ [])
    (ok 12 16 ∷ ok 16 20 ∷ ok 20 24 ∷ ok 24 28 ∷ ok 28 32 ∷ [])
    28 (node 17 12 2 [])
    ∷  -- P9
    example 8192 (instr 2 4 [] ∷ instr 11 1 (12 ∷ []) ∷ instr 11 3 (12 ∷ []) ∷ instr 11 4 (12 ∷ []) ∷ instr 39 0 (16 ∷ 20 ∷ []) ∷ instr 39 0 (16 ∷ 24 ∷ []) ∷ [])
    (ok 12 16 ∷ ok 16 20 ∷ ok 20 24 ∷ ok 24 28 ∷ ok 28 32 ∷ ok 32 36 ∷ [])
    32 (node 17 12 0 [])
    ∷  -- P10
    example 8192 (instr 2 64 [] ∷ instr 11 5 (12 ∷ []) ∷ instr 11 3 (12 ∷ []) ∷ instr 14 0 (12 ∷ 16 ∷ 20 ∷ 16 ∷ []) ∷ instr 14 0 (12 ∷ 20 ∷ 16 ∷ []) ∷ [])
    (ok 12 16 ∷ ok 16 20 ∷ ok 20 24 ∷ ok 29 35 ∷ ok 29 35 ∷ [])
    29 (node 20 24 0 (16 ∷ 20 ∷ []))
    ∷  -- P11
    example 8192 (instr 2 64 [] ∷ instr 3 0 (12 ∷ []) ∷ instr 16 1 (16 ∷ []) ∷ instr 16 2 (16 ∷ []) ∷ instr 65 0 (21 ∷ 25 ∷ []) ∷ instr 60 0 (25 ∷ []) ∷ instr 60 0 (21 ∷ []) ∷ [])
    (ok 12 16 ∷ ok 16 21 ∷ ok 21 25 ∷ ok 25 29 ∷ ok 45 51 ∷ ok 39 51 ∷ ok 33 51 ∷ [])
    33 (node 124 0 0 (21 ∷ 29 ∷ []))
    ∷  -- P12
    example 8192 (instr 2 60 [] ∷ instr 16 1 (12 ∷ []) ∷ instr 49 4 (16 ∷ []) ∷ instr 49 5 (16 ∷ []) ∷ instr 49 0 (16 ∷ []) ∷ [])
    (ok 12 16 ∷ ok 16 20 ∷ ok 24 29 ∷ refused 6 ∷ ok 29 34 ∷ [])
    29 (node 149 12 0 (16 ∷ []))
    ∷ []

examples_hold : holds examples ≡ true
unfolding extended_to not_empty none_or or_is_none neg_unless if_all_given has_some optioned known row refusal junction ite_of_somes or_some or_none holds runs same_reply examples nat2bv extract concat all_ones bvnot bvneg bvadd bvmul bvudiv bvurem bvshl bvlshr bvult top by_tops bvsub bvsdiv bvsrem bvabs bvsmod_of bvsmod bvule by_top bvslt bvsle zero_extend bv2int outside bvnego bvsaddo bvssubo bvsmulo bvapp_of bvcmp_of bvso_of every all any same_list evens odds field field_d holds_field rising insert sorted put_field fields_of mark over node_at positions keys field_types same find put_found put cells parse_on parse used node_here ruled walked lit_rule free_rule field_run placed type_test maker_test core_test bv_test data_test kind_test good_node is_fresh starts_fresh good_nodes absent distinct well_formed filled clear formed none_of some_of set_of record_of not_t opposites and_t or_t implies eq_simplify eq_t ite_simplify ite_t uninterpreted bvneg_t bvapp_t bvcmp_t bvnego_t bvso_t zero_extend_t is_nil set_member set_subset common set_inter set_is_empty set_intersects option_get record_get eq_none is_none_ite is_none is_some if_false if_true guarded if_some any_none_on any_none if_all_some compiled_not compiled_neg compiled_is_empty gotten inner record_if_all compiled_record compiled_has_attr compiled_get_attr table row_of count_ok too_many sort_ok sorts_ok operands_ok first_of tests fitted call call_on
examples_hold = refl
