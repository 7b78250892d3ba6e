use Rattle.std.proofs.Common.{◌≡◌, ℕ, ◌*◌, ◌/◌, ◌<◌, true, ◌&&◌, List, [], ◌∷◌, ◌++◌, length, get_or, eqb, refl, sym, ap, ◌∙◌, inl, inr, length-append, arith}
use Rattle.std.specs.Iterator.Adapters.{zip_second}
use Rattle.std.specs.Slice.Iter.{chunks_exact_rest}
use borrow.Author.Tests.{eq-eqb, ne_eqb}
use Rattle.arena.specs.Lists.{same_list}
use Rattle.arena.specs.Nodes.{Nodes, type_at, field_types}
use Rattle.arena.proofs.Loops.{list_length}
use Rattle.runs.proofs.Pairs.{paired}
use Rattle.node_tests.proofs.Stands.{types_length}
use Rattle.arena.specs.View.{nodes_of}
use Rattle.node_tests.proofs.looks.Seen.fields_typed.Goals as goal
use Rattle.node_tests.proofs.looks.Seen.fields_typed.Goals.{then-ty-field-via-then-ty-field, then-ty-field-via-else-ty-field+then-ty-type_at}

-- a field and its type, and the others
turn : (a : Nodes) (ts p u fs q v : List ℕ) → ts ≡ p ++ u → length p ≡ 2 → fs ≡ q ++ v → length q ≡ 2
    → same_list ts (field_types a fs) ≡ (eqb (get_or p 0 0) (get_or q 0 0) && (eqb (get_or p 1 0) (type_at a (get_or q 1 0)) && same_list u (field_types a v)))
unfolding same_list field_types
turn a ts p u fs q v e l f m = rw (paired ts p u e l, paired fs q v f m) refl

still_long : (ts p u fs q v : List ℕ) → ts ≡ p ++ u → length p ≡ 2 → fs ≡ q ++ v → length q ≡ 2 → length ts ≡ length fs / 2 * 2 → length u ≡ length v / 2 * 2
still_long ts p u fs q v e l f m h = let x = ap length e ∙ length-append p u in let y = ap length f ∙ length-append q v in omega arith

none_left : (a : Nodes) (ts fs : List ℕ) → length ts ≡ length fs / 2 * 2 → length fs < 2 → true ≡ same_list ts (field_types a fs)
unfolding same_list field_types
none_left a [] [] h l = refl
none_left a [] (x ∷ []) h l = refl
none_left a ts (x ∷ y ∷ fs) h l = absurd (omega arith)
none_left a (t ∷ ts) [] h l = absurd (omega arith)
none_left a (t ∷ ts) (x ∷ []) h l = absurd (omega arith)

pub returns-then-types-run : goal.returns-then-types-run
returns-then-types-run c = sym (list_length _ _ (λ z. c.if-types-run.true (z ∙ types_length (nodes_of c.args.self.now.nodes) c.args.run.now)))

pub returns-then-ty-field : goal.returns-then-ty-field
returns-then-ty-field c =
    let i = c.loop-ty.invariant in
    let s = c.in-Some.ensures.steps in
    let e = i.left ∙ turn (nodes_of c.args.self.now.nodes) _ _ _ _ _ _ s.0.1.0 (s.0.1.1 ∙ i.pairs) s.1.1.0 (s.1.1.1 ∙ i.pairs_too) in
    sym (e ∙ elim c.then-ty-field.branch [
      | then-ty-field-via-then-ty-field w ↦ rw (ne_eqb _ _ w.if-ty-field.true) refl
      | then-ty-field-via-else-ty-field+then-ty-type_at w ↦ rw (eq-eqb _ _ w.if-ty-field.false, ne_eqb _ _ (λ z. w.if-ty-type_at.true (z ∙ sym w.type_at.ensures))) refl
    ])

pub loop-ty-preserved : goal.loop-ty-preserved
loop-ty-preserved c =
    let i = c.loop-ty.invariant in
    let s = c.in-Some.ensures.steps in
    let two = s.0.1.1 ∙ i.pairs in
    let two_too = s.1.1.1 ∙ i.pairs_too in
    let e = i.left ∙ turn (nodes_of c.args.self.now.nodes) _ _ _ _ _ _ s.0.1.0 two s.1.1.0 two_too in
    record {
      can = (omega (arith, s.0.0, i.pairs), omega (arith, s.1.0, i.pairs_too));
      ends = tt;
      pairs = s.0.0 ∙ i.pairs;
      pairs_too = s.1.0 ∙ i.pairs_too;
      long = still_long _ _ _ _ _ _ s.0.1.0 two s.1.1.0 two_too i.long;
      left = e ∙ rw (eq-eqb _ _ c.if-ty-field.false, eq-eqb _ _ (c.if-ty-type_at.false ∙ c.type_at.ensures)) refl;
    }

pub returns : goal.returns
returns c =
    let i = c.loop-ty.invariant in
    let few : length (chunks_exact_rest (zip_second c.loop-ty.ty-iterator)) < 2 =
    elim c.in-None.ensures.steps [ inl u ↦ omega (arith, u.1.1.0, i.pairs, i.long) | inr u ↦ omega (arith, u.1.1.0, i.pairs_too) ] in
    none_left (nodes_of c.args.self.now.nodes) _ _ i.long few ∙ sym i.left
