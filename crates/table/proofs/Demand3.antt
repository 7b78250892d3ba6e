-- Demand 3: an accepted operation builds a term of its type and meaning, a literal from literals, and keeps every older term; 1 to 5 build types. Assumes nothing.
use mathlib.Core.Path.{◌≡◌, refl, sym, ap, ◌∙◌, subst}
use Prim.Native.Nat.{ℕ, ◌≤◌, ◌<◌}
use native.Mathlib.Omega.{arith}
use mathlib.Core.Bool.{Bool, true, false, ◌&&◌}
use mathlib.Core.Option.{Option, none, some}
use mathlib.Core.List.{List, ◌∷◌}
use lib.ListN.{length}
use lib.Dec.{eqb, leb, ltb}
use borrow.Author.Tests.{eqb-true, leb-true, ltb-true, eq-eqb}
use Rattle.arena.specs.Nodes.{Nodes}
use Rattle.arena.specs.WellFormed.{is_term, well_formed}
use Rattle.arena.proofs.Bools.{t≢f, none≢some, and_l, and_r}
use Rattle.arena.proofs.Ext.{Ext, node_ext, meaning_ext}
use Rattle.arena.proofs.Chain.{WF, term-below, term_ext, ty_at_ext}
use Rattle.arena.proofs.Formed.{test_wf, wf_test}
use Rattle.instruction.specs.Instruction.{Instr}
use Rattle.table.specs.Table.{Row, table, row_of, known, row}
use Rattle.table.specs.Senses.{Sense, senses, sense_of}
use Rattle.table.specs.Call.{refusal, build}
use Rattle.table.specs.Promises.{Kept, Meant, TypeBuilt}
use Rattle.table.proofs.Fits.{Passed, passed}
use Rattle.table.proofs.Rows.{TypeRow, TermRow}
use Rattle.table.proofs.Laws.{Laws, end, ◌▸◌, ◌▹◌, aligned, laws, laws_aligned}

-- ---- a row by its number

-- what is known of the row r of the operation o
data Entry (ss : List Sense) (o : ℕ) (r : Row) : Type 0 where
  of_type : o < 10 → TypeRow r → Entry ss o r
  of_term : 10 ≤ o → (s : Sense) → sense_of ss o ≡ some s → TermRow r s → Entry ss o r

entry_at : {rs : List Row} {ss : List Sense} (l : Laws rs ss) → aligned l ≡ true → (o : ℕ) (r : Row) → row_of rs o ≡ some r → Entry ss o r
unfolding aligned row_of sense_of
entry_at end h o r e = none≢some e
entry_at (◌▸◌ {r = q} {rs = rs} {ss = ss} t l) h o r e = go (entry_at l (and_r (ltb q.number 10) _ h) o r) (eqb q.number o) refl e
  where
    go : (row_of rs o ≡ some r → Entry ss o r) → (b : Bool) → eqb q.number o ≡ b → elim b [ true ↦ some q | false ↦ row_of rs o ] ≡ some r → Entry ss o r
    go ih true k z =
        let n = ltb-true q.number 10 (and_l _ _ h) in let j = eqb-true q.number o k in
        of_type (omega arith) (subst TypeRow (cc) t)
    go ih false k z = ih z
entry_at (◌▹◌ {r = q} {s = s} {rs = rs} {ss = ss} t l) h o r e = go (entry_at l (and_r (leb 10 q.number && eqb q.number s.number) _ h) o r) (eqb q.number o) refl e
  where
    n : (10 ≤ q.number) × (q.number ≡ s.number)
    n = let m = and_l _ _ h in (leb-true 10 q.number (and_l _ _ m), eqb-true q.number s.number (and_r (leb 10 q.number) _ m))

    later : (eqb q.number o ≡ false) → Entry ss o r → Entry (s ∷ ss) o r
    later k (of_type j u) = of_type j u
    later k (of_term j v f u) = of_term j v (rw (sym (ap (λ (d : ℕ). eqb d o) n.1) ∙ k, sense_of) f) u

    go : (row_of rs o ≡ some r → Entry ss o r) → (b : Bool) → eqb q.number o ≡ b → elim b [ true ↦ some q | false ↦ row_of rs o ] ≡ some r → Entry (s ∷ ss) o r
    go ih true k z =
        let m = n in let j = eqb-true q.number o k in
        of_term (omega arith) s (rw (eq-eqb s.number o (omega arith), sense_of)) (subst (λ (d : Row). TermRow d s) (cc) t)
    go ih false k z = later k (ih z)

row_is : (o : ℕ) (r : Row) → row_of table o ≡ some r → row o ≡ r
unfolding row
row_is o r e = rw (e, row)

entry : (o : ℕ) → known o ≡ true → Entry senses o (row o)
unfolding known
entry o e = go (row_of table o) refl e
  where
    go : (f : Option Row) → row_of table o ≡ f → elim f [ none ↦ false | some r ↦ true ] ≡ true → Entry senses o (row o)
    go none q z = t≢f (sym z)
    go (some r) q z = subst (Entry senses o) (sym (row_is o r q)) (entry_at laws laws_aligned o r q)

-- ---- the demand

-- a longer arena keeps every term
pub kept : {a b : Nodes} → WF a → Ext a b → (x : ℕ) → is_term a x ≡ true → Kept a b x
kept {a} w e x h =
    record {
      isterm = term_ext e x h;
      node = node_ext e x (term-below a x h);
      typed = ty_at_ext w.chain e x h;
      means = λ I. meaning_ext I e x (term-below a x h);
    }

pub has-sense : (o : ℕ) → 10 ≤ o → known o ≡ true → (s : Sense) × (sense_of senses o ≡ some s)
has-sense o h e = go (entry o e)
  where
    go : Entry senses o (row o) → (s : Sense) × (sense_of senses o ≡ some s)
    go (of_type j t) = absurd (omega arith)
    go (of_term j s f t) = (s, f)

pub demand_3 : (a : Nodes) → well_formed a ≡ true → (i : Instr) → length i.operands ≡ i.count → 10 ≤ i.op → refusal a i ≡ 0 → (s : Sense) → sense_of senses i.op ≡ some s → Meant a i s (build a i)
demand_3 a f i h k e s q = go (test_wf a f) (passed a i e) (entry i.op (passed a i e).listed)
  where
    go : WF a → Passed a i (row i.op) → Entry senses i.op (row i.op) → Meant a i s (build a i)
    go w P (of_type j t) = absurd (omega arith)
    go w P (of_term j v g t) =
        let l = t.law a w i h P in
        let same : v ≡ s = cc in
        subst (λ (d : Sense). Meant a i d (build a i)) same
        (record { formed = wf_test l.wf; older = kept w l.ext; isterm = l.typed.isterm; typed = l.typed.typed; means = l.means; literal = λ x y. l.lit (x, y) })

pub demand_types : (a : Nodes) → well_formed a ≡ true → (i : Instr) → length i.operands ≡ i.count → i.op < 10 → refusal a i ≡ 0 → TypeBuilt a (build a i)
demand_types a f i h k e = go (test_wf a f) (passed a i e) (entry i.op (passed a i e).listed)
  where
    go : WF a → Passed a i (row i.op) → Entry senses i.op (row i.op) → TypeBuilt a (build a i)
    go w P (of_type j t) = let l = t.law a w i h P in record { formed = wf_test l.wf; older = kept w l.ext; istype = l.istype }
    go w P (of_term j v g t) = absurd (omega arith)

-- the arena that any accepted operation leaves
pub build_wf : {a : Nodes} → WF a → (i : Instr) → length i.operands ≡ i.count → refusal a i ≡ 0 → Ext a (build a i).arena × WF (build a i).arena
build_wf {a} w i h e = go (entry i.op (passed a i e).listed)
  where
    go : Entry senses i.op (row i.op) → Ext a (build a i).arena × WF (build a i).arena
    go (of_type j t) = let l = t.law a w i h (passed a i e) in (l.ext, l.wf)
    go (of_term j v g t) = let l = t.law a w i h (passed a i e) in (l.ext, l.wf)
