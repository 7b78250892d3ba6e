-- The laws of all rows of the table, each by its operation's law. Assumes nothing.
use mathlib.Core.Path.{◌≡◌, refl, sym, ap, ◌∙◌}
use Prim.Native.Nat.{ℕ, ◌≤◌}
use mathlib.Core.Bool.{Bool, true, ◌&&◌}
use mathlib.Core.List.{List, [], ◌∷◌}
use lib.Dec.{eqb, leb, ltb}
use borrow.Author.Tests.{eqb-false, eq-eqb, leb-true, le-leb}
use Rattle.arena.specs.Lists.{odds}
use Rattle.arena.specs.Nodes.{Node, node, Nodes, elem_at, width_at, put, Out}
use Rattle.arena.specs.WellFormed.{field_run}
use Rattle.arena.specs.Values.{Ty, tbv, tset}
use Rattle.arena.specs.Meaning.{ty_of}
use Rattle.arena.proofs.Bools.{and_l, and_r, all-every}
use Rattle.arena.proofs.Chain.{WF}
use Rattle.arena.proofs.View.{Is, is_bool_lem, is_bv_lem, is_opt_lem, is_set, is_rec}
use Rattle.arena.proofs.Built.{type_added}
use Rattle.factory.specs.Fit.{Typed, Alike, OfKind}
use Rattle.factory.proofs.Law.{typed_self, set_typed, bv_typed, reads, retyped}
use Rattle.factory.proofs.Operands.{opt_of}
use Rattle.factory.proofs.Made.{bool_law, bitvec_law, variable_law, uninterpreted_law, none_law, some_law}
use Rattle.factory.proofs.Logic.{not_law, and_law, or_law, implies_law}
use Rattle.factory.proofs.Equal.{eq_law}
use Rattle.factory.proofs.Choice.{ite_law}
use Rattle.factory.proofs.Bits.{bvneg_law, bvnego_law, bvapp_law, bvcmp_law, bvso_law, zero_extend_law}
use Rattle.factory.proofs.SetLaws.{member_law, is_empty_law, subset_law, inter_law, intersects_law}
use Rattle.factory.proofs.Listed.{set_law, record_law}
use Rattle.factory.proofs.Options.{get_law, is_none_law, is_some_law}
use Rattle.factory.proofs.Records.{record_get_law}
use Rattle.factory.proofs.Guards.{options, if_false_law, if_true_law, if_some_law, any_none_law, if_all_some_law}
use Rattle.compiler.proofs.Unary.{compiled_not_law, compiled_neg_law, compiled_is_empty_law}
use Rattle.compiler.proofs.Record.{compiled_record_law}
use Rattle.compiler.proofs.Attributes.{compiled_has_attr_law, compiled_get_attr_law}
use Rattle.instruction.specs.Instruction.{Instr}
use Rattle.table.specs.Table.{ty, tm, Row, #0, #1, #2, rest, one_term, two_terms, first_not, not_alike, plain, bvapp_row, bvcmp_row, bvso_row, table}
use Rattle.table.specs.Senses.{Sense, app_sense, cmp_sense, so_sense, senses}
use Rattle.table.proofs.Fits.{Passed, even_pairs, few_pairs, few_run, one_type_lem, one-term, two-terms, type-term, type-run, term-run, run-terms, type-pairs, term-pairs, all_options, elements, first_kind, width_64, two_alike, two-kind, member_of, one_bool, two_bools, bool-first, choice_of, width_of, set_free_lem, ordered, bv_type, value-fits, widened, small-par, small-keys, field-there}
use Rattle.table.proofs.Rows.{TypeOut, TypeRow, TermRow, on_any, on_open, on_one, on_get, on_two, on_three, on_pairs, on_run, on_term-run}

-- the rows of types, and the rows of terms with their senses
infixr 5 ◌▸◌
infixr 5 ◌▹◌
pub data Laws : List Row → List Sense → Type 0 where
  end : Laws [] []
  ◌▸◌ : {r : Row} {rs : List Row} {ss : List Sense} → TypeRow r → Laws rs ss → Laws (r ∷ rs) ss
  ◌▹◌ : {r : Row} {s : Sense} {rs : List Row} {ss : List Sense} → TermRow r s → Laws rs ss → Laws (r ∷ rs) (s ∷ ss)

-- ---- operands

abbrev x : Instr → ℕ
x i = #0 i.operands

abbrev y : Instr → ℕ
y i = #1 i.operands

abbrev z : Instr → ℕ
z i = #2 i.operands

-- the second is of the first's type
as_first : {a : Nodes} {t u : ℕ} {e : Ty} → Alike a t u → Typed a e t → Typed a e u
as_first l m = record { isterm = l.1.isterm; typed = l.1.typed ∙ m.typed }

module _ {a : Nodes} (w : WF a) {t : ℕ} where
  bv_of : OfKind a 2 t → Typed a (tbv (width_at a t)) t
  bv_of k = bv_typed w t k.isterm k.sort

  set_of_lem : OfKind a 4 t → Typed a (tset (ty_of a (elem_at a t))) t
  set_of_lem k = set_typed w t k.isterm k.sort

-- the only operand is of kind k
one-kind : {a : Nodes} {i : Instr} {o k : ℕ} {t : Bool} {six seven eight : Nodes → ℕ → List ℕ → Bool} {b : Nodes → ℕ → List ℕ → Out}
    → Passed a i (record { number = o; shape = one_term; takes = t; five = first_not k; six = six; seven = seven; eight = eight; build = b }) → OfKind a k (x i)
one-kind {a} {i} {k = k} P = first_kind a i.operands k (one-term a i.operands P.sorts) P.five

-- both operands are of one type of kind k
both_kind : {a : Nodes} {i : Instr} {o k : ℕ} {b : Nodes → List ℕ → Out} → Passed a i (plain o two_terms (not_alike k) b) → OfKind a k (x i) × Alike a (x i) (y i)
both_kind {a} {i} {k = k} P = two-kind a i.operands k P.sorts P.five

-- ---- types

type_row : {a : Nodes} (n : Node) → WF a → leb n.kind 15 ≡ true → Is a n → TypeOut a (put a n)
type_row n w h k = let l = type_added n w (leb-true n.kind 15 h) k in record { ext = l.ext; wf = l.wf; istype = l.type }

-- ---- bitvectors

-- the operations lo to hi
abbrev from : ℕ → ℕ → ℕ → Type 0
from lo hi o = (leb lo o && leb o hi) ≡ true

bounds : (lo hi o : ℕ) → from lo hi o → (lo ≤ o) × (o ≤ hi)
bounds lo hi o h = (leb-true lo o (and_l _ _ h), leb-true o hi (and_r (leb lo o) _ h))

app-row : (o : ℕ) → from 31 40 o → TermRow (bvapp_row o) (app_sense o)
app-row o b =
    on_two refl (λ a w i h P.
    let k = both_kind P in let m = bv_of w k.0 in let l = bounds 31 40 o b in
    retyped (sym m.typed) (bvapp_law w o (x i) (y i) m (as_first k.1 m) l.0 l.1))

cmp_row : (o : ℕ) → from 41 44 o → TermRow (bvcmp_row o) (cmp_sense o)
cmp_row o b =
    on_two refl (λ a w i h P.
    let k = both_kind P in let m = bv_of w k.0 in let l = bounds 41 44 o b in
    bvcmp_law w o (x i) (y i) m (as_first k.1 m) l.0 l.1)

so_row : (o : ℕ) → from 46 48 o → TermRow (bvso_row o) (so_sense o)
so_row o b =
    on_two refl (λ a w i h P.
    let k = both_kind P in let m = bv_of w k.0 in let l = bounds 46 48 o b in
    bvso_law w o (x i) (y i) m (as_first k.1 m) l.0 l.1)

-- ---- the table

pub laws : Laws table senses
unfolding table senses field_run
laws =
    record { law = λ a w i h P. type_row (node 1 0 0 []) w refl is_bool_lem }
    ▸ record { law = λ a w i h P. let l = width_of i.par P.six in type_row (node 2 0 i.par []) w refl (is_bv_lem i.par l.0 l.1) }
    ▸ record { law = λ a w i h P. type_row (node 3 0 0 (x i ∷ [])) w refl (is_opt_lem (x i) (one_type_lem a i.operands P.sorts)) }
    ▸ record { law = λ a w i h P. type_row (node 4 0 0 (x i ∷ [])) w refl (is_set (x i) (one_type_lem a i.operands P.sorts) (set_free_lem a (x i) P.five)) }
    ▸ record {
      law = λ a w i h P.
          let xs = i.operands in let o = ordered xs P.seven in
          type_row (node 5 0 0 xs) w refl
          (is_rec xs (all-every _ (eq-eqb _ _ (even_pairs xs i.count h ty P.count), (le-leb _ 128 (few_pairs xs i.count h ty P.few), (o.1, (o.0, tt))))) (type-pairs a xs P.sorts));
    }
    -- makers
    ▸ on_any (λ a w i h P. bool_law w (eqb i.par 1))
    ▹ on_any (λ a w i h P. bitvec_law w (x i) i.par refl (bv_type a (x i) P.five) (value-fits a (x i) i.par P.seven))
    ▹ on_any (λ a w i h P. none_law w (x i) (one_type_lem a i.operands P.sorts) refl)
    ▹ on_one refl (λ a w i h P. some_law w (x i) (typed_self (x i) (one-term a i.operands P.sorts)))
    ▹ on_run refl (λ a w i h P.
    let xs = i.operands in let s = type-run a xs P.sorts in let e = elements a xs P.five in
    set_law w (x i) (rest xs) s.0 e.0 (few_run xs i.count h (ty ∷ []) P.few) s.1 e.1)
    ▹ on_pairs refl (λ a w i h P.
    let xs = i.operands in
    record_law w xs (few_pairs xs i.count h tm P.few) (small-keys a i.par xs P.seven) (term-pairs a xs P.sorts))
    ▹ on_open (λ a xs. refl) (λ a w i h P. variable_law w i.par (x i) (small-par a i.par i.operands P.seven) (one_type_lem a i.operands P.sorts))
    -- core
    ▹ on_one refl (λ a w i h P. not_law w (x i) (one_bool a i.operands w P.sorts P.five))
    ▹ on_two refl (λ a w i h P. let m = two_bools a i.operands w P.sorts P.five in and_law w (x i) (y i) m.0 m.1)
    ▹ on_two refl (λ a w i h P. let m = two_bools a i.operands w P.sorts P.five in or_law w (x i) (y i) m.0 m.1)
    ▹ on_two refl (λ a w i h P. let m = two_bools a i.operands w P.sorts P.five in implies_law w (x i) (y i) m.0 m.1)
    ▹ on_two refl (λ a w i h P. let m = two_alike a i.operands P.sorts P.five in eq_law w (x i) (y i) m.0 m.1)
    ▹ on_three refl (λ a w i h P. let m = choice_of a i.operands w P.sorts P.five in ite_law w (x i) (y i) (z i) m.0 m.1.0 m.1.1)
    ▹ on_open (λ a xs. refl) (λ a w i h P.
    let s = type-term a i.operands P.sorts in uninterpreted_law w i.par (x i) (y i) (small-par a i.par i.operands P.seven) s.0 s.1)
    -- bitvectors
    ▹ on_one refl (λ a w i h P. let m = bv_of w (one-kind P) in retyped (sym m.typed) (bvneg_law w (x i) m))
    ▹ app-row 31 refl ▹ app-row 32 refl ▹ app-row 33 refl ▹ app-row 34 refl ▹ app-row 35 refl ▹ app-row 36 refl ▹ app-row 37 refl ▹ app-row 38 refl ▹ app-row 39 refl ▹ app-row 40 refl
    ▹ cmp_row 41 refl ▹ cmp_row 42 refl ▹ cmp_row 43 refl ▹ cmp_row 44 refl
    ▹ on_one refl (λ a w i h P. bvnego_law w (x i) (bv_of w (one-kind P)))
    ▹ so_row 46 refl ▹ so_row 47 refl ▹ so_row 48 refl
    ▹ on_one refl (λ a w i h P. zero_extend_law w i.par (x i) (bv_of w (one-kind P)) (widened a (x i) i.par P.six))
    -- sets, options and records
    ▹ on_two refl (λ a w i h P. let m = member_of a i.operands P.sorts P.five in member_law w (y i) (set_of_lem w m.0) (x i) m.1)
    ▹ on_two refl (λ a w i h P. let k = both_kind P in let m = set_of_lem w k.0 in subset_law w (x i) (y i) m (as_first k.1 m))
    ▹ on_two refl (λ a w i h P. let k = both_kind P in let m = set_of_lem w k.0 in retyped (sym m.typed) (inter_law w (x i) (y i) m (as_first k.1 m)))
    ▹ on_one refl (λ a w i h P. is_empty_law w (x i) (set_of_lem w (one-kind P)))
    ▹ on_two refl (λ a w i h P. let k = both_kind P in let m = set_of_lem w k.0 in intersects_law w (x i) (y i) m (as_first k.1 m))
    ▹ on_get refl (λ a w i h P. reads (get_law w (x i) (opt_of w (x i) (one-kind P))) (λ l. (l.0, eqb-false _ 18 l.1)) (λ I G. refl))
    ▹ on_one refl (λ a w i h P.
    let k = one-kind P in record_get_law w i.par (x i) _ (small-par a i.par i.operands P.seven) k.isterm k.sort (field-there a i.par i.operands P.eight))
    -- helpers
    ▹ on_one refl (λ a w i h P. is_none_law w (x i) (opt_of w (x i) (one-kind P)))
    ▹ on_one refl (λ a w i h P. is_some_law w (x i) (opt_of w (x i) (one-kind P)))
    ▹ on_two refl (λ a w i h P. let m = bool-first a i.operands w P.sorts P.five in if_false_law w (x i) (y i) m.0 (typed_self (y i) m.1))
    ▹ on_two refl (λ a w i h P. let m = bool-first a i.operands w P.sorts P.five in if_true_law w (x i) (y i) m.0 (typed_self (y i) m.1))
    ▹ on_two refl (λ a w i h P.
    let t = two-terms a i.operands P.sorts in
    if_some_law w (x i) (y i) (opt_of w (x i) (first_kind a i.operands 3 t.0 P.five)) (typed_self (y i) t.1))
    ▹ on_run refl (λ a w i h P. any_none_law w i.operands (options a i.operands (run-terms a i.operands P.sorts) (all_options a i.operands P.five)))
    ▹ on_term-run refl (λ a w i h P.
    let t = term-run a i.operands P.sorts in
    if_all_some_law w (rest i.operands) (options a (rest i.operands) t.1 (all_options a (rest i.operands) P.five)) (x i) (typed_self (x i) t.0))
    -- compiled
    ▹ on_one refl (λ a w i h P. compiled_not_law w (x i) (one_bool a i.operands w P.sorts P.five))
    ▹ on_one refl (λ a w i h P.
    let k = width_64 a i.operands (one-term a i.operands P.sorts) P.five in
    let m = bv_of w k.0 in compiled_neg_law w (x i) (record { isterm = m.isterm; typed = m.typed ∙ ap tbv k.1 }))
    ▹ on_one refl (λ a w i h P. compiled_is_empty_law w (x i) (set_of_lem w (one-kind P)))
    ▹ on_pairs refl (λ a w i h P.
    let xs = i.operands in
    compiled_record_law w xs (even_pairs xs i.count h tm P.count) (few_pairs xs i.count h tm P.few) (small-keys a i.par xs P.seven) (term-pairs a xs P.sorts)
    (all_options a (odds xs) P.five))
    ▹ on_one refl (λ a w i h P.
    let k = one-kind P in compiled_has_attr_law w i.par (x i) (small-par a i.par i.operands P.seven) k.isterm k.sort)
    ▹ on_one refl (λ a w i h P.
    let k = one-kind P in compiled_get_attr_law w i.par (x i) (small-par a i.par i.operands P.seven) k.isterm k.sort _ (field-there a i.par i.operands P.eight))
    ▹ end

-- types are numbered below 10, and a term's sense has its row's number
unfoldable pub aligned : {rs : List Row} {ss : List Sense} → Laws rs ss → Bool
aligned end = true
aligned (◌▸◌ {r = r} t l) = ltb r.number 10 && aligned l
aligned (◌▹◌ {r = r} {s = s} t l) = (leb 10 r.number && eqb r.number s.number) && aligned l

pub laws_aligned : aligned laws ≡ true
unfolding aligned laws table senses
laws_aligned = refl
