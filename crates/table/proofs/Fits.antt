-- What the operands of an accepted instruction are: each test that did not refuse, and what it says of the operands. Assumes nothing.
use mathlib.Core.Path.{◌≡◌, refl, sym, ap, ◌∙◌}
use Prim.Native.Nat.{ℕ, zero, suc, ◌+◌, ◌^◌, ◌%◌, ◌≤◌, ◌<◌}
use native.Mathlib.Omega.{arith}
use mathlib.Core.Bool.{Bool, true, false, not, cond, ◌&&◌, ◌||◌}
use mathlib.Core.Option.{Option, none, some}
use mathlib.Core.List.{List, [], ◌∷◌}
use lib.ListN.{length, get_or, drop, length-drop}
use lib.Seq.{get_or-drop}
use lib.Dec.{eqb, leb, ltb}
use borrow.Author.Tests.{eqb-true, leb-true, leb-false, ltb-false, not-false}
use Rattle.arena.specs.Lists.{within, all, any, evens, odds, field, field_d, rising}
use Rattle.arena.specs.Nodes.{Nodes, kind_at, type_at, par_at, mem_at, elem_at, width_at}
use Rattle.arena.specs.Walks.{set_free}
use Rattle.arena.specs.WellFormed.{small, is_type, is_term, kind_is, sort_is}
use Rattle.arena.specs.Values.{tbool}
use Rattle.arena.specs.Meaning.{ty_of}
use Rattle.arena.proofs.Bools.{t≢f, and_l, and_r, or_false_l, or_false_r, every-all}
use Rattle.arena.proofs.Runs.{field-field_d}
use Rattle.arena.proofs.Chain.{WF}
use Rattle.arena.proofs.Types.{ty_bool}
use Rattle.factory.specs.Fit.{Typed, Alike, OfKind}
use Rattle.instruction.specs.Instruction.{Instr}
use Rattle.table.specs.Table.{Sort, ty, tm, fixed, pairs, run, Row, #0, #1, #2, rest, one_type, one_term, two_terms, not_of, not_kind, not_bools, first_not, two_types, not_alike, large, large_attributes, absent_attribute, known, row}
use Rattle.table.specs.Call.{count_ok, too_many, sort_ok, sorts_ok, operands_ok, first_of, tests, refusal}
use Rattle.table.proofs.First.{quiet, tests_rise}

-- ---- no test refused

pub record Passed (a : Nodes) (i : Instr) (r : Row) : Type 0 where
  pub listed : known i.op ≡ true
  pub count : count_ok r.shape i.count ≡ true
  pub spare : (not r.takes && not (eqb i.par 0)) ≡ false
  pub few : too_many r.shape i.count ≡ false
  pub sorts : operands_ok a r.shape i.operands ≡ true
  pub five : r.five a i.operands ≡ false
  pub six : r.six a i.par i.operands ≡ false
  pub seven : r.seven a i.par i.operands ≡ false
  pub eight : r.eight a i.par i.operands ≡ false

pub passed : (a : Nodes) (i : Instr) → refusal a i ≡ 0 → Passed a i (row i.op)
unfolding refusal tests
passed a i e = go (known i.op) refl e
  where
    go : (b : Bool) → known i.op ≡ b → cond b (first_of (tests a i (row i.op))) 2 ≡ 0 → Passed a i (row i.op)
    go false k z = absurd (omega arith)
    go true k z =
        let q = quiet 2 (tests a i (row i.op)) (tests_rise a i (row i.op)) (omega arith) z in
        record {
          listed = k;
          count = not-false _ (or_false_l _ _ q.0);
          spare = or_false_r (not (count_ok (row i.op).shape i.count)) _ q.0;
          few = q.1.0;
          sorts = not-false _ q.1.1.0;
          five = q.1.1.1.0;
          six = q.1.1.1.1.0;
          seven = q.1.1.1.1.1.0;
          eight = q.1.1.1.1.1.1.0;
        }

-- ---- counts

pub fixed-count : (ss : List Sort) (n : ℕ) → count_ok (fixed ss) n ≡ true → n ≡ length ss
unfolding count_ok
fixed-count ss n e = eqb-true n (length ss) e

module _ (xs : List ℕ) (n : ℕ) (h : length xs ≡ n) where
  pub even_pairs : (s : Sort) → count_ok (pairs s) n ≡ true → length xs % 2 ≡ 0
  unfolding count_ok
  even_pairs s e = let k = eqb-true (n % 2) 0 e in omega arith

  pub few_pairs : (s : Sort) → too_many (pairs s) n ≡ false → length xs ≤ 128
  unfolding too_many
  few_pairs s e = let k = ltb-false 128 n e in omega arith

  pub few_run : (ss : List Sort) → too_many (run ss) n ≡ false → length (drop (length ss) xs) ≤ 256
  unfolding too_many
  few_run ss e = let k = ltb-false (length ss + 256) n e in let d = length-drop (length ss) xs in omega arith

-- ---- sorts

sorts-at : (a : Nodes) (ss : List Sort) (xs : List ℕ) → sorts_ok a ss xs ≡ true → (i : ℕ) → i < length ss → sort_ok a (get_or ss i tm) (get_or xs i 0) ≡ true
unfolding sorts_ok
sorts-at a [] xs e i h = absurd (omega arith)
sorts-at a (s ∷ ss) [] e i h = t≢f (sym e)
sorts-at a (s ∷ ss) (x ∷ xs) e zero h = and_l (sort_ok a s x) _ e
sorts-at a (s ∷ ss) (x ∷ xs) e (suc i) h = sorts-at a ss xs (and_r (sort_ok a s x) _ e) i (omega arith)

sorts-length : (a : Nodes) (ss : List Sort) (xs : List ℕ) → sorts_ok a ss xs ≡ true → length ss ≤ length xs
unfolding sorts_ok
sorts-length a [] xs e = omega arith
sorts-length a (s ∷ ss) [] e = t≢f (sym e)
sorts-length a (s ∷ ss) (x ∷ xs) e = let h = sorts-length a ss xs (and_r (sort_ok a s x) _ e) in omega arith

-- those after the sorts named are terms
sorts-rest : (a : Nodes) (ss : List Sort) (xs : List ℕ) → sorts_ok a ss xs ≡ true → all (is_term a) (drop (length ss) xs) ≡ true
unfolding sorts_ok sort_ok all
sorts-rest a [] [] e = refl
sorts-rest a [] (x ∷ xs) e = rw (and_l (is_term a x) _ e) (sorts-rest a [] xs (and_r (is_term a x) _ e))
sorts-rest a (s ∷ ss) [] e = refl
sorts-rest a (s ∷ ss) (x ∷ xs) e = sorts-rest a ss xs (and_r (sort_ok a s x) _ e)

module _ (a : Nodes) (xs : List ℕ) where
  pub one_type_lem : operands_ok a one_type xs ≡ true → is_type a (#0 xs) ≡ true
  unfolding operands_ok sort_ok
  one_type_lem e = sorts-at a (ty ∷ []) xs e 0 (omega arith)

  pub one-term : operands_ok a one_term xs ≡ true → is_term a (#0 xs) ≡ true
  unfolding operands_ok sort_ok
  one-term e = sorts-at a (tm ∷ []) xs e 0 (omega arith)

  pub two-terms : operands_ok a two_terms xs ≡ true → (is_term a (#0 xs) ≡ true) × (is_term a (#1 xs) ≡ true)
  unfolding operands_ok sort_ok
  two-terms e = (sorts-at a (tm ∷ tm ∷ []) xs e 0 (omega arith), sorts-at a (tm ∷ tm ∷ []) xs e 1 (omega arith))

  pub three_terms : operands_ok a (fixed (tm ∷ tm ∷ tm ∷ [])) xs ≡ true → (is_term a (#0 xs) ≡ true) × (is_term a (#1 xs) ≡ true) × (is_term a (#2 xs) ≡ true)
  unfolding operands_ok sort_ok
  three_terms e = let f = sorts-at a (tm ∷ tm ∷ tm ∷ []) xs e in (f 0 (omega arith), f 1 (omega arith), f 2 (omega arith))

  pub type-term : operands_ok a (fixed (ty ∷ tm ∷ [])) xs ≡ true → (is_type a (#0 xs) ≡ true) × (is_term a (#1 xs) ≡ true)
  unfolding operands_ok sort_ok
  type-term e = (sorts-at a (ty ∷ tm ∷ []) xs e 0 (omega arith), sorts-at a (ty ∷ tm ∷ []) xs e 1 (omega arith))

  pub type-run : operands_ok a (run (ty ∷ [])) xs ≡ true → (is_type a (#0 xs) ≡ true) × (all (is_term a) (rest xs) ≡ true)
  unfolding operands_ok sort_ok
  type-run e = (sorts-at a (ty ∷ []) xs e 0 (omega arith), sorts-rest a (ty ∷ []) xs e)

  pub term-run : operands_ok a (run (tm ∷ [])) xs ≡ true → (is_term a (#0 xs) ≡ true) × (all (is_term a) (rest xs) ≡ true)
  unfolding operands_ok sort_ok
  term-run e = (sorts-at a (tm ∷ []) xs e 0 (omega arith), sorts-rest a (tm ∷ []) xs e)

  pub run-terms : operands_ok a (run []) xs ≡ true → all (is_term a) xs ≡ true
  unfolding operands_ok
  run-terms e = sorts-rest a [] xs e

  pub type-pairs : operands_ok a (pairs ty) xs ≡ true → all (is_type a) (odds xs) ≡ true
  unfolding operands_ok sort_ok
  type-pairs e = e

  pub term-pairs : operands_ok a (pairs tm) xs ≡ true → all (is_term a) (odds xs) ≡ true
  unfolding operands_ok sort_ok
  term-pairs e = e

-- ---- test 5: one term

-- the term x is of the type at t
pub is_of : (a : Nodes) (t x : ℕ) → not_of a t x ≡ false → type_at a x ≡ t
is_of a t x e = eqb-true _ _ (not-false _ e)

pub typed_of : (a : Nodes) (t x : ℕ) → is_term a x ≡ true → not_of a t x ≡ false → Typed a (ty_of a t) x
typed_of a t x h e = record { isterm = h; typed = ap (ty_of a) (is_of a t x e) }

pub bool_of : {a : Nodes} → WF a → (x : ℕ) → is_term a x ≡ true → not_of a 0 x ≡ false → Typed a tbool x
bool_of {a} w x h e = record { isterm = h; typed = ap (ty_of a) (is_of a 0 x e) ∙ ty_bool w.base }

pub alike_of : (a : Nodes) (x z : ℕ) → is_term a x ≡ true → is_term a z ≡ true → not_of a (type_at a x) z ≡ false → Alike a x z
alike_of a x z h k e = (record { isterm = h; typed = refl }, typed_of a (type_at a x) z k e)

pub kind_of : (a : Nodes) (k x : ℕ) → is_term a x ≡ true → not_kind k a x ≡ false → OfKind a k x
kind_of a k x h e = record { isterm = h; sort = eqb-true _ _ (not-false _ e) }

-- ---- test 5: several

-- none fails: all pass
pub any_not : (f : ℕ → Bool) (xs : List ℕ) → any (λ x. not (f x)) xs ≡ false → all f xs ≡ true
unfolding any all
any_not f [] e = refl
any_not f (x ∷ xs) e = rw (not-false (f x) (or_false_l _ _ e)) (any_not f xs (or_false_r (not (f x)) _ e))

any_at : (f : ℕ → Bool) (xs : List ℕ) → any f xs ≡ false → (i : ℕ) → i < length xs → f (get_or xs i 0) ≡ false
unfolding any
any_at f [] e i h = absurd (omega arith)
any_at f (x ∷ xs) e zero h = or_false_l (f x) _ e
any_at f (x ∷ xs) e (suc i) h = any_at f xs (or_false_r (f x) _ e) i (omega arith)

pub all_options : (a : Nodes) (xs : List ℕ) → any (not_kind 3 a) xs ≡ false → all (λ x. sort_is a x 3) xs ≡ true
all_options a xs e = any_not (λ x. sort_is a x 3) xs e

pub all_of : (a : Nodes) (t : ℕ) (xs : List ℕ) → any (not_of a t) xs ≡ false → all (λ x. eqb (type_at a x) t) xs ≡ true
all_of a t xs e = any_not (λ x. eqb (type_at a x) t) xs e

module _ (a : Nodes) (xs : List ℕ) where
  -- 14: an element type without sets, and terms of it
  pub elements : (not (set_free a (#0 xs)) || any (not_of a (#0 xs)) (rest xs)) ≡ false → (set_free a (#0 xs) ≡ true) × (all (λ x. eqb (type_at a x) (#0 xs)) (rest xs) ≡ true)
  elements e = (not-false _ (or_false_l _ _ e), all_of a (#0 xs) (rest xs) (or_false_r (not (set_free a (#0 xs))) _ e))

  -- the first, if it is a term
  pub first_kind : (k : ℕ) → is_term a (#0 xs) ≡ true → first_not k a xs ≡ false → OfKind a k (#0 xs)
  first_kind k h e = kind_of a k (#0 xs) h e

  -- 71: a bitvector of 64 bits
  pub width_64 : is_term a (#0 xs) ≡ true → (first_not 2 a xs || not (eqb (width_at a (#0 xs)) 64)) ≡ false → OfKind a 2 (#0 xs) × (width_at a (#0 xs) ≡ 64)
  width_64 h e = (kind_of a 2 (#0 xs) h (or_false_l _ _ e), eqb-true _ _ (not-false _ (or_false_r (first_not 2 a xs) _ e)))

  -- two of one type
  pub two_alike : operands_ok a two_terms xs ≡ true → two_types a xs ≡ false → Alike a (#0 xs) (#1 xs)
  two_alike s e = let h = two-terms a xs s in alike_of a (#0 xs) (#1 xs) h.0 h.1 e

  at_least : (ss : List Sort) → operands_ok a (fixed ss) xs ≡ true → length ss ≤ length xs
  unfolding operands_ok
  at_least ss s = sorts-length a ss xs s

  -- two of one type of kind k
  pub two-kind : (k : ℕ) → operands_ok a two_terms xs ≡ true → not_alike k a xs ≡ false → OfKind a k (#0 xs) × Alike a (#0 xs) (#1 xs)
  two-kind k s e =
      let h = two-terms a xs s in
      let l = at_least (tm ∷ tm ∷ []) s in (
        kind_of a k (#0 xs) h.0 (or_false_l _ _ e),
        alike_of a (#0 xs) (#1 xs) h.0 h.1 (any_at (not_of a (type_at a (#0 xs))) xs (or_false_r (first_not k a xs) _ e) 1 (omega arith)),
      )

  -- 50: a set, and a term of its element type
  pub member_of : operands_ok a two_terms xs ≡ true → (not_kind 4 a (#1 xs) || not_of a (elem_at a (#1 xs)) (#0 xs)) ≡ false
      → OfKind a 4 (#1 xs) × Typed a (ty_of a (elem_at a (#1 xs))) (#0 xs)
  member_of s e =
      let h = two-terms a xs s in
      (kind_of a 4 (#1 xs) h.1 (or_false_l _ _ e), typed_of a (elem_at a (#1 xs)) (#0 xs) h.0 (or_false_r (not_kind 4 a (#1 xs)) _ e))

  module _ (w : WF a) where
    pub one_bool : operands_ok a one_term xs ≡ true → not_bools a xs ≡ false → Typed a tbool (#0 xs)
    one_bool s e = let l = at_least (tm ∷ []) s in bool_of w (#0 xs) (one-term a xs s) (any_at (not_of a 0) xs e 0 (omega arith))

    pub two_bools : operands_ok a two_terms xs ≡ true → not_bools a xs ≡ false → Typed a tbool (#0 xs) × Typed a tbool (#1 xs)
    two_bools s e =
        let h = two-terms a xs s in
        let l = at_least (tm ∷ tm ∷ []) s in
        (bool_of w (#0 xs) h.0 (any_at (not_of a 0) xs e 0 (omega arith)), bool_of w (#1 xs) h.1 (any_at (not_of a 0) xs e 1 (omega arith)))

    -- 62, 63: a Bool and a term
    pub bool-first : operands_ok a two_terms xs ≡ true → not_of a 0 (#0 xs) ≡ false → Typed a tbool (#0 xs) × (is_term a (#1 xs) ≡ true)
    bool-first s e = let h = two-terms a xs s in (bool_of w (#0 xs) h.0 e, h.1)

    -- 25: a Bool and two of one type
    pub choice_of : operands_ok a (fixed (tm ∷ tm ∷ tm ∷ [])) xs ≡ true → (not_of a 0 (#0 xs) || two_types a (rest xs)) ≡ false → Typed a tbool (#0 xs) × Alike a (#1 xs) (#2 xs)
    choice_of s e =
        let h = three_terms a xs s in
        let t = or_false_r (not_of a 0 (#0 xs)) _ e in
        (bool_of w (#0 xs) h.0 (or_false_l _ _ e), alike_of a (#1 xs) (#2 xs) h.1 h.2 (rw (← get_or-drop 1 xs 0 0, ← get_or-drop 1 xs 1 0) t))

-- ---- tests 5 to 8 of types and parameters

-- 2
pub width_of : (p : ℕ) → not (within 1 64 p) ≡ false → (1 ≤ p) × (p ≤ 64)
width_of p e = let w = every-all _ (not-false _ e) in (leb-true 1 p w.0, leb-true p 64 w.1.0)

-- 4
pub set_free_lem : (a : Nodes) (t : ℕ) → not (set_free a t) ≡ false → set_free a t ≡ true
set_free_lem a t e = not-false _ e

-- 5
pub ordered : (xs : List ℕ) → not (all small (evens xs) && rising (evens xs)) ≡ false → (all small (evens xs) ≡ true) × (rising (evens xs) ≡ true)
ordered xs e = let h = not-false _ e in (and_l _ _ h, and_r (all small (evens xs)) _ h)

-- 11
pub bv_type : (a : Nodes) (t : ℕ) → not (kind_is a t 2) ≡ false → kind_at a t ≡ 2
bv_type a t e = eqb-true _ _ (not-false _ e)

pub value-fits : (a : Nodes) (t p : ℕ) → leb (2 ^ par_at a t) p ≡ false → p < 2 ^ par_at a t
value-fits a t p e = leb-false _ p e

-- 49
pub widened : (a : Nodes) (x p : ℕ) → ltb 64 (width_at a x + p) ≡ false → width_at a x + p ≤ 64
widened a x p e = ltb-false 64 _ e

-- 16, 26, 56, 74, 75
pub small-par : (a : Nodes) (p : ℕ) (xs : List ℕ) → large a p xs ≡ false → small p ≡ true
small-par a p xs e = not-false _ e

-- 15, 73
pub small-keys : (a : Nodes) (p : ℕ) (xs : List ℕ) → large_attributes a p xs ≡ false → all small (evens xs) ≡ true
small-keys a p xs e = not-false _ e

-- 56, 75
pub field-there : (a : Nodes) (p : ℕ) (xs : List ℕ) → absent_attribute a p xs ≡ false → field (mem_at a (type_at a (#0 xs))) p ≡ some (field_d (mem_at a (type_at a (#0 xs))) p)
field-there a p xs e = go (field (mem_at a (type_at a (#0 xs))) p) refl e
  where
    go : (f : Option ℕ) → field (mem_at a (type_at a (#0 xs))) p ≡ f → elim f [ none ↦ true | some t ↦ false ] ≡ false
        → field (mem_at a (type_at a (#0 xs))) p ≡ some (field_d (mem_at a (type_at a (#0 xs))) p)
    go none q z = t≢f z
    go (some u) q z = q ∙ ap some (sym (field-field_d (mem_at a (type_at a (#0 xs))) p u q))
