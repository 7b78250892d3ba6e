-- What a call leaves, for callers that go on with the cells: an arena again, of as many cells, and the term built stands in it. Assumes nothing.
use mathlib.Core.Path.{◌≡◌, refl, sym, ap, ◌∙◌, subst}
use Prim.Native.Nat.{ℕ, suc, ◌+◌, ◌≤◌, ◌<◌}
use native.Mathlib.Omega.{arith}
use mathlib.Core.Bool.{Bool, true, false, ◌&&◌}
use mathlib.Core.Option.{Option, none, some}
use mathlib.Core.List.{List, [], ◌∷◌}
use lib.ListN.{length}
use lib.Dec.{eqb, leb, ltb}
use borrow.Author.Tests.{leb-true, ltb-true, ltb-false}
use Rattle.arena.specs.Nodes.{Nodes, mark, Out, out}
use Rattle.arena.specs.Cells.{used}
use Rattle.arena.specs.WellFormed.{formed, IsArena}
use Rattle.arena.proofs.Bools.{none≢some, and_l, and_r}
use Rattle.arena.proofs.Chain.{type-below, term-below}
use Rattle.arena.proofs.Formed.{wf}
use Rattle.arena.proofs.Padded.{padded-length, padded-used, padded-arena}
use Rattle.instruction.specs.Instruction.{Instr}
use Rattle.table.specs.Table.{Shape, fixed, pairs, run, Row, table, row_of, row}
use Rattle.table.specs.Senses.{Sense, senses, sense_of}
use Rattle.table.specs.Call.{count_ok, too_many, Test, test, first_of, tests, refusal, Reply, ok, refused, build, Lent, call_on}
use Rattle.table.specs.Promises.{refusals, After, Meant, TypeBuilt}
use Rattle.table.proofs.Fits.{passed, fixed-count}
use Rattle.table.proofs.Demand1.{Outcome, refuses, builds, outcome, differ}
use Rattle.table.proofs.Demand3.{has-sense, demand_3, demand_types, build_wf}

-- ---- an accepted instruction lists at most 257 operands

unfoldable narrow : Row → Bool
narrow r = elim r.shape [ fixed ss ↦ leb (length ss) 257 | pairs s ↦ true | run ss ↦ leb (length ss) 1 ]

unfoldable all_narrow : List Row → Bool
all_narrow [] = true
all_narrow (r ∷ rs) = narrow r && all_narrow rs

row_narrow : (rs : List Row) → all_narrow rs ≡ true → (o : ℕ) (r : Row) → row_of rs o ≡ some r → narrow r ≡ true
unfolding row_of all_narrow
row_narrow [] h o r e = none≢some e
row_narrow (q ∷ rs) h o r e = go (row_narrow rs (and_r (narrow q) _ h) o r) (eqb q.number o) e
  where
    go : (row_of rs o ≡ some r → narrow r ≡ true) → (b : Bool) → elim b [ true ↦ some q | false ↦ row_of rs o ] ≡ some r → narrow r ≡ true
    go ih true z = let s : q ≡ r = cc in subst (λ (d : Row). narrow d ≡ true) s (and_l (narrow q) _ h)
    go ih false z = ih z

table_narrow : all_narrow table ≡ true
unfolding all_narrow table narrow
table_narrow = refl

shape_few : (r : Row) (n : ℕ) → narrow r ≡ true → count_ok r.shape n ≡ true → too_many r.shape n ≡ false → n ≤ 257
unfolding narrow count_ok too_many
shape_few r n h c t = go r.shape h c t
  where
    go : (s : Shape) → elim s [ fixed ss ↦ leb (length ss) 257 | pairs s ↦ true | run ss ↦ leb (length ss) 1 ] ≡ true → count_ok s n ≡ true → too_many s n ≡ false → n ≤ 257
    go (fixed ss) h c t = let x = leb-true (length ss) 257 h in let y = fixed-count ss n c in omega arith
    go (pairs s) h c t = let y = ltb-false 128 n t in omega arith
    go (run ss) h c t = let x = leb-true (length ss) 1 h in let y = ltb-false (length ss + 256) n t in omega arith

row_few : (o : ℕ) → narrow (row o) ≡ true
unfolding row narrow
row_few o = go (row_of table o) refl
  where
    go : (f : Option Row) → row_of table o ≡ f → narrow (row o) ≡ true
    go none q = rw (q, row)
    go (some r) q = rw (q, row) (row_narrow table table_narrow o r q)

pub few : (a : Nodes) (i : Instr) → refusal a i ≡ 0 → i.count ≤ 257
few a i e = let P = passed a i e in shape_few (row i.op) i.count (row_few i.op) P.count P.few

-- ---- a refusal's number

-- the numbers are hi or less
abbrev UpTo : ℕ → List Test → Type 0
UpTo hi [] = Unit {0}
UpTo hi (test n b ∷ ts) = (n ≤ hi) × UpTo hi ts

first_up : (hi : ℕ) (ts : List Test) → UpTo hi ts → first_of ts ≤ hi
unfolding first_of
first_up hi [] u = omega arith
first_up hi (test n true ∷ ts) u = u.0
first_up hi (test n false ∷ ts) u = first_up hi ts u.1

refusals_up : (c : List ℕ) (m : ℕ) (i : Instr) → UpTo 9 (refusals c m i)
unfolding refusals tests
refusals_up c m i = (omega arith, (omega arith, (omega arith, (omega arith, (omega arith, (omega arith, (omega arith, (omega arith, (omega arith, (omega arith, tt))))))))))

-- ---- what is left

-- the operands are as many as the count says, where the count is not refused by itself
module _ (c : List ℕ) (m : ℕ) (i : Instr) (h : i.count ≤ 257 → length i.operands ≡ i.count) (A : IsArena c m) where
  abbrev a : Nodes
  a = used c m

  abbrev o : Out
  o = build a i

  -- the position of what is built lies in the arena
  built-below : refusal a i ≡ 0 → o.at < mark o.arena
  built-below r = go (ltb i.op 10) refl
    where
      go : (b : Bool) → ltb i.op 10 ≡ b → o.at < mark o.arena
      go true e = type-below o.arena o.at (demand_types a A.below.well i (h (few a i r)) (ltb-true i.op 10 e) r).istype
      go false e =
          let k = ltb-false i.op 10 e in
          let s = has-sense i.op k (passed a i r).listed in
          term-below o.arena o.at (demand_3 a A.below.well i (h (few a i r)) k r s.0 s.1).isterm

  pub kept : After c m (call_on c m i)
  kept = go (outcome c m i (formed c m) refl)
    where
      go : Outcome c m i → After c m (call_on c m i)
      go (refuses k f e) = subst (After c m) (sym e) (record {
        arena = A;
        long = refl;
        place = λ p n z. differ (sym z);
        number = λ n z. let u = first_up 9 (refusals c m i) (refusals_up c m i) in let y : suc k ≡ n = cc in omega arith;
      })
      go (builds f r l e) = subst (After c m) (sym e) (record {
        arena = padded-arena (length c) o.arena l (build_wf (wf A.below) i (h (few a i r)) r).1 A.below.short;
        long = padded-length (length c) o.arena l;
        place = λ p n z. let y : (o.at ≡ p) × (mark o.arena ≡ n) = (cc, cc) in let b = built-below r in (omega arith, omega arith);
        number = λ n z. differ z;
      })

  -- the node built, in the cells that are left
  left : (p n : ℕ) → (call_on c m i).reply ≡ ok p n → (refusal a i ≡ 0) × (o ≡ out (used (call_on c m i).cells n) p)
  left p n z = go (outcome c m i (formed c m) refl)
    where
      go : Outcome c m i → (refusal a i ≡ 0) × (o ≡ out (used (call_on c m i).cells n) p)
      go (refuses k f e) = differ (sym z ∙ ap (λ (d : Lent). d.reply) e)
      go (builds f r l e) =
          let q : ok o.at (mark o.arena) ≡ ok p n = sym (ap (λ (d : Lent). d.reply) e) ∙ z in
          let x : o.at ≡ p = cc in
          let y : mark o.arena ≡ n = cc in
          let u : o.arena ≡ used (call_on c m i).cells n = sym (padded-used (length c) o.arena l) ∙ (λ j. used (sym e j).cells (y j)) in
          (r, λ j. out (u j) (x j))

  -- the demand, about those cells
  pub demand_3_cells : 10 ≤ i.op → (p n : ℕ) → (call_on c m i).reply ≡ ok p n → (s : Sense) → sense_of senses i.op ≡ some s
      → Meant (used c m) i s (out (used (call_on c m i).cells n) p)
  demand_3_cells k p n z s q = let w = left p n z in subst (Meant a i s) w.1 (demand_3 a A.below.well i (h (few a i w.0)) k w.0 s q)

  pub demand_types_cells : i.op < 10 → (p n : ℕ) → (call_on c m i).reply ≡ ok p n → TypeBuilt (used c m) (out (used (call_on c m i).cells n) p)
  demand_types_cells k p n z = let w = left p n z in subst (TypeBuilt a) w.1 (demand_types a A.below.well i (h (few a i w.0)) k w.0)

-- the numbers of an answer, in an arena of n cells
abbrev pub Small : ℕ → Reply → Type 0
Small n (ok p m) = (p ≤ n) × (m ≤ n)
Small n (refused k) = k ≤ 9

pub small : {c : List ℕ} {m : ℕ} {d : Lent} → After c m d → Small (length c) d.reply
small {c} {d = d} h = go d.reply refl
  where
    go : (r : Reply) → d.reply ≡ r → Small (length c) r
    go (ok p n) e = h.place p n e
    go (refused k) e = h.number k e
