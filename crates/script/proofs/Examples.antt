-- Document 01's script and others, computed from the definitions: one table, one statement.
use mathlib.Core.Path.{◌≡◌, refl}
use mathlib.Core.Bool.{Bool, true, ◌&&◌}
use mathlib.Core.List.{List, [], ◌∷◌, ◌++◌}
use Prim.Native.Nat.{ℕ}
use Rattle.smtlib.specs.Theory.{nat2bv, extract, concat, all_ones, bvnot, bvneg, bvadd, bvmul, bvudiv, bvurem, bvshl, bvlshr, bvult}
use Rattle.smtlib.specs.Logic.{top, by_tops, bvsub, bvsdiv, bvsrem, bvabs, bvsmod_of, bvsmod, bvule, by_top, bvslt, bvsle, zero_extend}
use Rattle.smtlib.specs.Overflow.{bv2int, outside, bvnego, bvsaddo, bvssubo, bvsmulo}
use Rattle.smtlib.specs.Numbered.{bvapp_of, bvcmp_of, bvso_of}
use Rattle.arena.specs.Lists.{every, all, any, same_list, evens, odds, field, field_d, holds_field, rising, insert, sorted, common, put_field, fields_of}
use Rattle.arena.specs.Nodes.{mark, over, node_at, positions, keys, field_types, same, find, put_found, put}
use Rattle.arena.specs.Cells.{cells, parse_on, parse, used, node_here}
use Rattle.arena.specs.Walks.{ruled, walked, lit_rule, free_rule}
use Rattle.arena.specs.WellFormed.{field_run, placed, type_test, maker_test, core_test, bv_test, data_test, kind_test, good_node, is_fresh, starts_fresh, good_nodes, absent, distinct, well_formed, filled, clear, formed}
use Rattle.factory.specs.Makers.{none_of, some_of, set_of, record_of}
use Rattle.factory.specs.Core.{junction, ite_of_somes, not_t, opposites, and_t, or_t, implies, eq_simplify, eq_t, ite_simplify, ite_t, uninterpreted}
use Rattle.factory.specs.Bitvectors.{bvneg_t, bvapp_t, bvcmp_t, bvnego_t, bvso_t, extended_to, zero_extend_t}
use Rattle.factory.specs.SetSteps.{is_nil, set_member, set_subset, set_inter, set_is_empty, not_empty, set_intersects, option_get, record_get}
use Rattle.factory.specs.Helpers.{or_some, or_none, eq_none, is_none_ite, is_none, is_some, if_false, if_true, none_or, guarded, if_some, or_is_none, any_none_on, any_none, if_all_some}
use Rattle.compiler.specs.Compiler.{compiled_not, neg_unless, compiled_neg, compiled_is_empty, gotten, inner, if_all_given, record_if_all, compiled_record, has_some, compiled_has_attr, optioned, compiled_get_attr}
use Rattle.table.specs.Table.{table, row_of, known, row}
use Rattle.codec.specs.Digits.{digits_in, digits}
use Rattle.codec.specs.Numbers.{marked, groups, value, run as groupsRun, same as sameBytes, number_of, number_at}
use Rattle.codec.specs.Instructions.{onto as numberOnto, first, numbers_at, after, operands, instruction_at}
use Rattle.answers.specs.Lines.{text, decimal, field as lineField, ok_line, refused_line}
use Rattle.table.specs.Call.{Reply, ok, refused, count_ok, too_many, sort_ok, sorts_ok, operands_ok, first_of, tests, refusal, fitted, call, call_on}
use Rattle.answers.specs.Replies.{line_of}
use Rattle.script.specs.Script.{step_on, steps, answers}

unfoldable pub lines : List Reply → List ℕ
lines [] = []
lines (r ∷ rs) = line_of r ++ lines rs

pub data Example : Type 0 where
  example : List ℕ → List Reply → Example

-- the answers to a script are the lines of these replies
unfoldable pub holds : List Example → Bool
holds [] = true
holds (example bytes rs ∷ es) = sameBytes (answers bytes) (lines rs) && holds es

unfoldable document : List ℕ
document = 0x02 ∷ 0x40 ∷ 0x00 ∷ 0x0b ∷ 0x05 ∷ 0x01 ∷ 0x0c ∷ 0x1e ∷ 0x00 ∷ 0x01 ∷ 0x10 ∷ 0x14 ∷ 0x00 ∷ 0x01 ∷ 0x10 ∷ []

unfoldable version : List ℕ
version =
    0x02 ∷ 0x40 ∷ 0x00
    ∷ 0x10 ∷ 0x01 ∷ 0x01 ∷ 0x0c
    ∷ 0x10 ∷ 0x02 ∷ 0x01 ∷ 0x0c
    ∷ 0x29 ∷ 0x00 ∷ 0x02 ∷ 0x10 ∷ 0x14
    ∷ 0x0b ∷ 0xff ∷ 0xff ∷ 0xff ∷ 0xff ∷ 0xff ∷ 0xff ∷ 0xff ∷ 0xff ∷ 0xff ∷ 0x01 ∷ 0x01 ∷ 0x0c
    ∷ 0x0b ∷ 0x05 ∷ 0x01 ∷ 0x0c
    ∷ 0x29 ∷ 0x00 ∷ 0x02 ∷ 0x1e ∷ 0x22
    ∷ 0x2b ∷ 0x00 ∷ 0x02 ∷ 0x1e ∷ 0x22
    ∷ []

unfoldable examples : List Example
examples =
    -- document 01's script
    example document (ok 12 16 ∷ ok 16 20 ∷ ok 20 24 ∷ refused 5 ∷ [])
    -- no bytes
    ∷ example [] []
    -- the version rule of docs/SCRIPTS.md
    ∷ example version (ok 12 16 ∷ ok 16 20 ∷ ok 20 24 ∷ ok 24 30 ∷ ok 30 34 ∷ ok 34 38 ∷ ok 8 38 ∷ ok 4 38 ∷ [])
    -- what is there is found
    ∷ example (0x02 ∷ 0x40 ∷ 0x00 ∷ 0x02 ∷ 0x40 ∷ 0x00 ∷ []) (ok 12 16 ∷ ok 12 16 ∷ [])
    -- after a refusal the script goes on in the arena as it was
    ∷ example (0x02 ∷ 0x40 ∷ 0x00 ∷ 0x02 ∷ 0x41 ∷ 0x00 ∷ 0x02 ∷ 0x08 ∷ 0x00 ∷ []) (ok 12 16 ∷ refused 6 ∷ ok 16 20 ∷ [])
    -- a cut number, a missing count, and a count of 258
    ∷ example (0x80 ∷ []) (refused 10 ∷ [])
    ∷ example (0x02 ∷ 0x40 ∷ 0x00 ∷ 0x02 ∷ 0x40 ∷ []) (ok 12 16 ∷ refused 10 ∷ [])
    ∷ example (0x0e ∷ 0x00 ∷ 0x82 ∷ 0x02 ∷ []) (refused 10 ∷ [])
    -- after refused 10 nothing is read
    ∷ example (0x80 ∷ 0x00 ∷ 0x02 ∷ 0x40 ∷ 0x00 ∷ []) (refused 10 ∷ [])
    ∷ []

examples_hold : holds examples ≡ true
unfolding holds lines document version examples extended_to not_empty none_or or_is_none neg_unless if_all_given has_some optioned known row refusal junction ite_of_somes or_some or_none nat2bv extract concat all_ones bvnot bvneg bvadd bvmul bvudiv bvurem bvshl bvlshr bvult top by_tops bvsub bvsdiv bvsrem bvabs bvsmod_of bvsmod bvule by_top bvslt bvsle zero_extend bv2int outside bvnego bvsaddo bvssubo bvsmulo bvapp_of bvcmp_of bvso_of every all any same_list evens odds field field_d holds_field rising insert sorted put_field fields_of mark over node_at positions keys field_types same find put_found put cells parse_on parse used node_here ruled walked lit_rule free_rule field_run placed type_test maker_test core_test bv_test data_test kind_test good_node is_fresh starts_fresh good_nodes absent distinct well_formed filled clear formed none_of some_of set_of record_of not_t opposites and_t or_t implies eq_simplify eq_t ite_simplify ite_t uninterpreted bvneg_t bvapp_t bvcmp_t bvnego_t bvso_t zero_extend_t is_nil set_member set_subset common set_inter set_is_empty set_intersects option_get record_get eq_none is_none_ite is_none is_some if_false if_true guarded if_some any_none_on any_none if_all_some compiled_not compiled_neg compiled_is_empty gotten inner record_if_all compiled_record compiled_has_attr compiled_get_attr table row_of count_ok too_many sort_ok sorts_ok operands_ok first_of tests fitted call call_on digits_in digits marked groups value groupsRun sameBytes number_of number_at numberOnto first numbers_at after operands instruction_at text decimal lineField ok_line refused_line line_of step_on steps answers
examples_hold = refl

-- the first byte by byte: 'ok 12 16', 'ok 16 20', 'ok 20 24', 'refused 5'
document_bytes : answers document ≡ 111 ∷ 107 ∷ 32 ∷ 49 ∷ 50 ∷ 32 ∷ 49 ∷ 54 ∷ 10 ∷ 111 ∷ 107 ∷ 32 ∷ 49 ∷ 54 ∷ 32 ∷ 50 ∷ 48 ∷ 10 ∷ 111 ∷ 107 ∷ 32 ∷ 50 ∷ 48 ∷ 32 ∷ 50 ∷ 52 ∷ 10 ∷ 114 ∷ 101 ∷ 102 ∷ 117 ∷ 115 ∷ 101 ∷ 100 ∷ 32 ∷ 53 ∷ 10 ∷ []
unfolding document extended_to not_empty none_or or_is_none neg_unless if_all_given has_some optioned known row refusal junction ite_of_somes or_some or_none nat2bv extract concat all_ones bvnot bvneg bvadd bvmul bvudiv bvurem bvshl bvlshr bvult top by_tops bvsub bvsdiv bvsrem bvabs bvsmod_of bvsmod bvule by_top bvslt bvsle zero_extend bv2int outside bvnego bvsaddo bvssubo bvsmulo bvapp_of bvcmp_of bvso_of every all any same_list evens odds field field_d holds_field rising insert sorted put_field fields_of mark over node_at positions keys field_types same find put_found put cells parse_on parse used node_here ruled walked lit_rule free_rule field_run placed type_test maker_test core_test bv_test data_test kind_test good_node is_fresh starts_fresh good_nodes absent distinct well_formed filled clear formed none_of some_of set_of record_of not_t opposites and_t or_t implies eq_simplify eq_t ite_simplify ite_t uninterpreted bvneg_t bvapp_t bvcmp_t bvnego_t bvso_t zero_extend_t is_nil set_member set_subset common set_inter set_is_empty set_intersects option_get record_get eq_none is_none_ite is_none is_some if_false if_true guarded if_some any_none_on any_none if_all_some compiled_not compiled_neg compiled_is_empty gotten inner record_if_all compiled_record compiled_has_attr compiled_get_attr table row_of count_ok too_many sort_ok sorts_ok operands_ok first_of tests fitted call call_on digits_in digits marked groups value groupsRun sameBytes number_of number_at numberOnto first numbers_at after operands instruction_at text decimal lineField ok_line refused_line line_of step_on steps answers
document_bytes = refl
