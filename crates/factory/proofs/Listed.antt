-- The laws of 14 set and 15 record: what is listed counts once, and of equal attributes the last.
use mathlib.Core.Path.{◌≡◌, refl, sym, ap, ap₂, ◌∙◌}
use Prim.Native.Nat.{ℕ, ◌%◌, ◌≤◌}
use native.Mathlib.Omega.{arith}
use mathlib.Core.Bool.{Bool, true, false, cond}
use mathlib.Core.List.{List, [], ◌∷◌, map}
use lib.ListN.{length}
use lib.Dec.{eqb, ltb}
use borrow.Author.Tests.{eqb-true, eq-eqb}
use Rattle.arena.specs.Lists.{all, same_list, evens, odds, sorted, put_field, fields_of}
use Rattle.arena.specs.Nodes.{Node, node, Nodes, kind_at, type_at, mem_at, arg_at, positions, keys, field_types}
use Rattle.arena.specs.Walks.{ruled, lit_rule, is_lit, set_free}
use Rattle.arena.specs.WellFormed.{small, field_run, is_type, is_term, good_node}
use Rattle.arena.specs.Values.{Ty, tset, trec, Value, vset, vrec, VFields, fcons, rec_v}
use Rattle.arena.specs.Meaning.{rec_ty, ty_of, ty_at, maker_means, term, mean_node, meaning}
use Rattle.arena.proofs.Bools.{every-all}
use Rattle.arena.proofs.Runs.{all-at, all_imp2, same_refl}
use Rattle.arena.proofs.Ext.{Ext, ty_ext}
use Rattle.arena.proofs.Chain.{WF, type-below, term_type}
use Rattle.arena.proofs.View.{is_set, is_rec, is_sett, is_recd}
use Rattle.arena.proofs.Types.{ty_set, ty_rec}
use Rattle.arena.proofs.Base.{tm_ext}
use Rattle.arena.proofs.Whole.{field_types_ext, good_is}
use Rattle.arena.proofs.Rising.{sorted_all, sorted-rising, sorted-length}
use Rattle.arena.proofs.Fields.{fields_of-all, fields_of-run, types_keys, types_run, types_all}
use Rattle.arena.proofs.Built.{type_added}
use Rattle.arena.proofs.LitSets.{sorted_set}
use Rattle.factory.specs.Makers.{set_type, record_type, set_of, record_of}
use Rattle.factory.specs.Meanings.{record_ty, means14, put_v, listed_v, means15}
use Rattle.factory.proofs.Law.{Law, added, reads, onward}
use Rattle.factory.proofs.Lists.{means_old, lits_old, terms_old}
use Rattle.factory.proofs.Made.{holder}

-- ---- 14 set

pub set_law : {a : Nodes} → WF a → (e : ℕ) (ts : List ℕ) → is_type a e ≡ true → set_free a e ≡ true → length ts ≤ 256 → all (is_term a) ts ≡ true → all (λ x. eqb (type_at a x) e) ts ≡ true
    → Law a (all (is_lit a) ts ≡ true) (tset (ty_of a e)) (λ I. means14 (map (meaning I a) ts)) (set_of a e ts)
unfolding set_of mean_node term maker_means positions ruled lit_rule
set_law {a} w e ts h n l m t =
    let p = holder w 4 e (omega arith) h (is_set e h n) in
    let b = (set_type a e).arena in
    let s = (set_type a e).at in
    let k = sorted_all (is_term a) ts m in
    onward p.ext
    (reads (added (node 20 s 0 (sorted ts)) p.wf (omega arith)
    (is_sett s (sorted ts) p.kind (let j = sorted-length ts in omega arith) (sorted-rising ts) (terms_old p.ext (sorted ts) k)
    (all_imp2 (is_term a) (λ x. eqb (type_at a x) e) (λ x. eqb (type_at b x) (arg_at b s 0))
    (λ x i j. eq-eqb (type_at b x) (arg_at b s 0) ((tm_ext p.ext (record { isterm = i; typed = eqb-true (type_at a x) e j })).typed ∙ sym p.elem)) (sorted ts) k (sorted_all (λ x. eqb (type_at a x) e) ts t)))
    (ty_set p.wf.chain s p.kind ∙ ap tset p.inner) (λ x. x))
    (λ x. lits_old p.ext (sorted ts) k (sorted_all (is_lit a) ts x))
    (λ I G. ap means14 (means_old p.ext I (sorted ts) k) ∙ ap vset (sorted_set (meaning I a) ts)))

-- ---- 15 record

-- the record of a run of fields, f giving each field's value
abbrev rec_of : (ℕ → Value) → List ℕ → VFields
rec_of f r = rec_v (evens r) (map f (odds r))

module _ (f : ℕ → Value) where
  put-rec : (k v : ℕ) (r : List ℕ) → rec_of f (put_field k v r) ≡ put_v k (f v) (rec_of f r)
  unfolding put_field evens odds rec_v put_v
  put-rec k v [] = refl
  put-rec k v (x ∷ []) = refl
  put-rec k v (x ∷ y ∷ r) = go (ltb k x) (eqb k x) (put-rec k v r)
    where
      go : (l e : Bool) → rec_of f (put_field k v r) ≡ put_v k (f v) (rec_of f r)
          → rec_of f (cond l (k ∷ v ∷ x ∷ y ∷ r) (cond e (k ∷ v ∷ r) (x ∷ y ∷ put_field k v r)))
          ≡ cond l (fcons k (f v) (fcons x (f y) (rec_of f r))) (cond e (fcons k (f v) (rec_of f r)) (fcons x (f y) (put_v k (f v) (rec_of f r))))
      go true e ih = refl
      go false true ih = refl
      go false false ih = ap (fcons x (f y)) ih

  -- the fields that are kept have the record's values
  pub listed-rec : (done r : List ℕ) → rec_of f (fields_of done r) ≡ listed_v (rec_of f done) (evens r) (map f (odds r))
  unfolding fields_of evens odds listed_v
  listed-rec done [] = refl
  listed-rec done (x ∷ []) = refl
  listed-rec done (x ∷ y ∷ r) = listed-rec (put_field x y done) r ∙ ap (λ (fs : VFields). listed_v fs (evens r) (map f (odds r))) (put-rec x y done)

types_map : {a b : Nodes} → WF a → Ext a b → (r : List ℕ) → all (is_term a) (odds r) ≡ true → map (ty_of b) (odds (field_types a r)) ≡ map (ty_at a) (odds r)
unfolding field_types odds
types_map w e [] h = refl
types_map w e (x ∷ []) h = refl
types_map {a} w e (x ∷ y ∷ r) h =
    let p = all-at (is_term a) y (odds r) h in
    ap₂ ◌∷◌ (ty_ext e (type_at a y) (type-below a (type_at a y) (term_type w.chain y p.0))) (types_map w e r p.1)

-- what the kept fields are, and so the record's type
pub fields_even : (ats : List ℕ) → length ats ≤ 128 → all small (evens ats) ≡ true → length (fields_of [] ats) % 2 ≡ 0
unfolding field_run
fields_even ats l s = eqb-true (length (fields_of [] ats) % 2) 0 (every-all _ (fields_of-run ats l s)).0

pub record_type_good : {a : Nodes} → WF a → (ats : List ℕ) → length ats ≤ 128 → all small (evens ats) ≡ true → all (is_term a) (odds ats) ≡ true
    → good_node a (node 5 0 0 (field_types a (fields_of [] ats))) ≡ true
unfolding all odds
record_type_good {a} w ats l s m =
    let fs = fields_of [] ats in
    good_is w (is_rec (field_types a fs) (types_run a fs (fields_of-run ats l s)) (types_all w.chain fs (fields_of-all (is_term a) [] ats refl m)))

pub record_law : {a : Nodes} → WF a → (ats : List ℕ) → length ats ≤ 128 → all small (evens ats) ≡ true → all (is_term a) (odds ats) ≡ true
    → Law a (all (is_lit a) (odds ats) ≡ true) (record_ty (ty_at a) ats) (λ I. means15 (evens ats) (map (meaning I a) (odds ats))) (record_of a ats)
unfolding record_of mean_node term maker_means positions keys ruled lit_rule field_run all odds rec_v evens
record_law {a} w ats l s m =
    let fs = fields_of [] ats in
    let run = fields_of-run ats l s in
    let k = fields_of-all (is_term a) [] ats refl m in
    let p = type_added (node 5 0 0 (field_types a fs)) w (omega arith) (is_rec (field_types a fs) (types_run a fs run) (types_all w.chain fs k)) in
    let b = (record_type a (field_types a fs)).arena in
    let t = (record_type a (field_types a fs)).at in
    let kind : kind_at b t ≡ 5 = ap (λ (n : Node). n.kind) p.there in
    let mem : mem_at b t ≡ field_types a fs = ap (λ (n : Node). n.mem) p.there in
    onward p.ext
    (reads (added (node 21 t 0 fs) p.wf (omega arith)
    (is_recd t fs kind run (terms_old p.ext (odds fs) k) (ap₂ same_list mem (field_types_ext p.ext fs k) ∙ same_refl (field_types a fs)))
    (ty_rec p.wf.chain t kind ∙ ap (λ (r : List ℕ). trec (rec_ty (evens r) (map (ty_of b) (odds r)))) mem
    ∙ ap₂ (λ (ks : List ℕ) (ts : List Ty). trec (rec_ty ks ts)) (types_keys a fs (eqb-true (length fs % 2) 0 (every-all _ run).0)) (types_map w p.ext fs k)) (λ x. x))
    (λ x. lits_old p.ext (odds fs) k (fields_of-all (is_lit a) [] ats refl x))
    (λ I G. ap (λ (vs : List Value). vrec (rec_v (evens fs) vs)) (means_old p.ext I (odds fs) k) ∙ ap vrec (listed-rec (meaning I a) [] ats)))
