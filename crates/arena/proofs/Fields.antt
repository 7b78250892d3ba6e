-- Runs of fields: what `put_field` and `fields_of` make, the types in a record's place, and what a field of a record means.
use mathlib.Core.Path.{◌≡◌, refl, sym, ap, ◌∙◌}
use Prim.Native.Nat.{ℕ, suc, ◌+◌, ◌%◌, ◌≤◌}
use native.Mathlib.Omega.{arith}
use mathlib.Core.Bool.{Bool, true, false, cond}
use mathlib.Core.Option.{Option, some}
use mathlib.Core.List.{List, [], ◌∷◌, map}
use lib.ListN.{length}
use lib.Dec.{eqb, ltb}
use borrow.Author.Tests.{eq-eqb, eqb-true, eqb-false, le-leb}
use Rattle.arena.specs.Lists.{all, evens, odds, field, rising, insert, put_field, fields_of}
use Rattle.arena.specs.Nodes.{Nodes, type_at, field_types}
use Rattle.arena.specs.WellFormed.{small, field_run, is_type, is_term}
use Rattle.arena.specs.Values.{Value, rec_v, field_v}
use Rattle.arena.proofs.Bools.{none≢some, every-all, all-every, by_cases}
use Rattle.arena.proofs.Runs.{all-at, all_cons, all0, all1}
use Rattle.arena.proofs.Rising.{insert_all?, insert_rises}
use Rattle.arena.proofs.Chain.{Chain, term_type}

-- ---- one field put into a run

pub put_field-keys : (k v : ℕ) (r : List ℕ) → length r % 2 ≡ 0 → evens (put_field k v r) ≡ insert k (evens r)
unfolding put_field evens insert
put_field-keys k v [] h = refl
put_field-keys k v (x ∷ []) h = absurd (omega arith)
put_field-keys k v (x ∷ y ∷ r) h = go (ltb k x) (eqb k x) refl (put_field-keys k v r (omega arith))
  where
    go : (l e : Bool) → eqb k x ≡ e → evens (put_field k v r) ≡ insert k (evens r)
        → evens (cond l (k ∷ v ∷ x ∷ y ∷ r) (cond e (k ∷ v ∷ r) (x ∷ y ∷ put_field k v r))) ≡ cond l (k ∷ x ∷ evens r) (cond e (x ∷ evens r) (x ∷ insert k (evens r)))
    go true e q ih = refl
    go false true q ih = ap (λ (z : ℕ). z ∷ evens r) (eqb-true k x q)
    go false false q ih = ap (λ (l : List ℕ). x ∷ l) ih

pub put_field-whole : (k v : ℕ) (r : List ℕ) → length r % 2 ≡ 0 → length (put_field k v r) % 2 ≡ 0
unfolding put_field
put_field-whole k v [] h = refl
put_field-whole k v (x ∷ []) h = refl
put_field-whole k v (x ∷ y ∷ r) h =
    by_cases (λ (l : List ℕ). length l % 2 ≡ 0) (ltb k x) (k ∷ v ∷ x ∷ y ∷ r) _ (λ q. omega arith)
    (λ q. by_cases (λ (l : List ℕ). length l % 2 ≡ 0) (eqb k x) (k ∷ v ∷ r) (x ∷ y ∷ put_field k v r) (λ p. omega arith)
    (λ p. let i = put_field-whole k v r (omega arith) in omega arith))

pub put_field-length : (k v : ℕ) (r : List ℕ) → length (put_field k v r) ≤ length r + 2
unfolding put_field
put_field-length k v [] = omega arith
put_field-length k v (x ∷ []) = omega arith
put_field-length k v (x ∷ y ∷ r) =
    by_cases (λ (l : List ℕ). length l ≤ length (x ∷ y ∷ r) + 2) (ltb k x) (k ∷ v ∷ x ∷ y ∷ r) _ (λ q. omega arith)
    (λ q. by_cases (λ (l : List ℕ). length l ≤ length (x ∷ y ∷ r) + 2) (eqb k x) (k ∷ v ∷ r) (x ∷ y ∷ put_field k v r) (λ p. omega arith)
    (λ p. let i = put_field-length k v r in omega arith))

pub put_field-all : (f : ℕ → Bool) (k v : ℕ) (r : List ℕ) → f v ≡ true → all f (odds r) ≡ true → all f (odds (put_field k v r)) ≡ true
unfolding put_field odds
put_field-all f k v [] h e = all1 f v h
put_field-all f k v (x ∷ []) h e = all1 f v h
put_field-all f k v (x ∷ y ∷ r) h e =
    let w = all-at f y (odds r) e in
    by_cases (λ (l : List ℕ). all f (odds l) ≡ true) (ltb k x) (k ∷ v ∷ x ∷ y ∷ r) _ (λ q. all_cons f v (y ∷ odds r) h e)
    (λ q. by_cases (λ (l : List ℕ). all f (odds l) ≡ true) (eqb k x) (k ∷ v ∷ r) (x ∷ y ∷ put_field k v r) (λ p. all_cons f v (odds r) h w.1)
    (λ p. all_cons f y (odds (put_field k v r)) w.0 (put_field-all f k v r h w.1)))

-- the field put is there, and the others are as they were
pub put_field-field : (k v j : ℕ) (r : List ℕ) → field (put_field k v r) j ≡ cond (eqb k j) (some v) (field r j)
unfolding put_field field
put_field-field k v j [] = refl
put_field-field k v j (x ∷ []) = refl
put_field-field k v j (x ∷ y ∷ r) = go (ltb k x) (eqb k x) refl (put_field-field k v j r)
  where
    once : {A : Type 0} (b : Bool) (p q r : A) → cond b p r ≡ cond b p (cond b q r)
    once true p q r = refl
    once false p q r = refl

    swap : {A : Type 0} (b d : Bool) (p q r : A) → (b ≡ true → d ≡ true → ⊥) → cond b p (cond d q r) ≡ cond d q (cond b p r)
    swap true true p q r h = absurd (h refl refl)
    swap true false p q r h = refl
    swap false true p q r h = refl
    swap false false p q r h = refl

    go : (l e : Bool) → eqb k x ≡ e → field (put_field k v r) j ≡ cond (eqb k j) (some v) (field r j)
        → field (cond l (k ∷ v ∷ x ∷ y ∷ r) (cond e (k ∷ v ∷ r) (x ∷ y ∷ put_field k v r))) j ≡ cond (eqb k j) (some v) (cond (eqb x j) (some y) (field r j))
    go true e q ih = refl
    go false true q ih =
        once (eqb k j) (some v) (some y) (field r j) ∙ ap (λ (z : ℕ). cond (eqb k j) (some v) (cond (eqb z j) (some y) (field r j))) (eqb-true k x q)
    go false false q ih =
        ap (cond (eqb x j) (some y)) ih
        ∙ swap (eqb x j) (eqb k j) (some y) (some v) (field r j) (λ a b. eqb-false k x q (eqb-true k j b ∙ sym (eqb-true x j a)))

-- ---- all fields of a list

-- the last that the list has for k, else d
unfoldable pub last_field : ℕ → Option ℕ → List ℕ → Option ℕ
last_field k d [] = d
last_field k d (x ∷ []) = d
last_field k d (x ∷ y ∷ r) = last_field k (cond (eqb x k) (some y) d) r

-- of equal attributes the last wins
pub fields_of-field : (k : ℕ) (done r : List ℕ) → field (fields_of done r) k ≡ last_field k (field done k) r
unfolding fields_of last_field
fields_of-field k done [] = refl
fields_of-field k done (x ∷ []) = refl
fields_of-field k done (x ∷ y ∷ r) = fields_of-field k (put_field x y done) r ∙ ap (λ (d : Option ℕ). last_field k d r) (put_field-field x y k done)

pub fields_of-all : (f : ℕ → Bool) (done r : List ℕ) → all f (odds done) ≡ true → all f (odds r) ≡ true → all f (odds (fields_of done r)) ≡ true
unfolding fields_of odds
fields_of-all f done [] h e = h
fields_of-all f done (x ∷ []) h e = h
fields_of-all f done (x ∷ y ∷ r) h e = let w = all-at f y (odds r) e in fields_of-all f (put_field x y done) r (put_field-all f x y done w.0 h) w.1

-- whole pairs, rising, and attributes that pass a test
pub record Runs (f : ℕ → Bool) (r : List ℕ) : Type 0 where
  pub whole : length r % 2 ≡ 0
  pub rise : rising (evens r) ≡ true
  pub pass : all f (evens r) ≡ true

pub runs_none : (f : ℕ → Bool) → Runs f []
unfolding evens rising all
runs_none f = record { whole = refl; rise = refl; pass = refl }

pub runs_put : (f : ℕ → Bool) (k v : ℕ) (r : List ℕ) → f k ≡ true → Runs f r → Runs f (put_field k v r)
runs_put f k v r h R =
    let e = put_field-keys k v r R.whole in
    record {
      whole = put_field-whole k v r R.whole;
      rise = ap rising e ∙ insert_rises k (evens r) R.rise;
      pass = ap (all f) e ∙ insert_all? f k (evens r) h R.pass;
    }

pub runs_fields : (f : ℕ → Bool) (done r : List ℕ) → all f (evens r) ≡ true → Runs f done → Runs f (fields_of done r)
unfolding fields_of evens
runs_fields f done [] e R = R
runs_fields f done (x ∷ []) e R = R
runs_fields f done (x ∷ y ∷ r) e R = let w = all-at f x (evens r) e in runs_fields f (put_field x y done) r w.1 (runs_put f x y done w.0 R)

pub fields_of-length : (done r : List ℕ) → length (fields_of done r) ≤ length done + length r
unfolding fields_of
fields_of-length done [] = omega arith
fields_of-length done (x ∷ []) = omega arith
fields_of-length done (x ∷ y ∷ r) = let h = fields_of-length (put_field x y done) r in let k = put_field-length x y done in omega arith

-- listed fields with small attributes, at most 64, make a run of fields
pub fields_of-run : (r : List ℕ) → length r ≤ 128 → all small (evens r) ≡ true → field_run (fields_of [] r) ≡ true
unfolding field_run
fields_of-run r h e =
    let R = runs_fields small [] r e (runs_none small) in
    let l = fields_of-length [] r in
    all-every _ (eq-eqb (length (fields_of [] r) % 2) 0 R.whole, (le-leb (length (fields_of [] r)) 128 (omega arith), (R.rise, (R.pass, tt))))

-- ---- the types in a record's place

module _ (a : Nodes) where
  pub types_keys : (r : List ℕ) → length r % 2 ≡ 0 → evens (field_types a r) ≡ evens r
  unfolding field_types evens
  types_keys [] h = refl
  types_keys (x ∷ []) h = absurd (omega arith)
  types_keys (x ∷ y ∷ r) h = ap (λ (l : List ℕ). x ∷ l) (types_keys r (omega arith))

  pub types_length : (r : List ℕ) → length r % 2 ≡ 0 → length (field_types a r) ≡ length r
  unfolding field_types
  types_length [] h = refl
  types_length (x ∷ []) h = absurd (omega arith)
  types_length (x ∷ y ∷ r) h = ap (λ (n : ℕ). suc (suc n)) (types_length r (omega arith))

  pub types_run : (r : List ℕ) → field_run r ≡ true → field_run (field_types a r) ≡ true
  unfolding field_run
  types_run r e =
      let h : length r % 2 ≡ 0 = eqb-true (length r % 2) 0 (every-all _ e).0 in
      rw (types_length r h, types_keys r h) e

  pub types_field : (r : List ℕ) (k x : ℕ) → field r k ≡ some x → field (field_types a r) k ≡ some (type_at a x)
  unfolding field_types field
  types_field [] k x e = none≢some e
  types_field (z ∷ []) k x e = none≢some e
  types_field (z ∷ y ∷ r) k x e = go (eqb z k) (λ q. types_field r k x q) e
    where
      go : (b : Bool) → (field r k ≡ some x → field (field_types a r) k ≡ some (type_at a x)) → cond b (some y) (field r k) ≡ some x
          → cond b (some (type_at a y)) (field (field_types a r) k) ≡ some (type_at a x)
      go true ih q = let p : y ≡ x = cc in ap (λ (z : ℕ). some (type_at a z)) p
      go false ih q = ih q

  -- and back: a field of the type is a field of the record
  pub field_types_lem : (r : List ℕ) (k t : ℕ) → field (field_types a r) k ≡ some t → (x : ℕ) × (field r k ≡ some x) × (type_at a x ≡ t)
  unfolding field_types field
  field_types_lem [] k t e = none≢some e
  field_types_lem (z ∷ []) k t e = none≢some e
  field_types_lem (z ∷ y ∷ r) k t e = go (eqb z k) (λ q. field_types_lem r k t q) e
    where
      go : (b : Bool) → (field (field_types a r) k ≡ some t → (x : ℕ) × (field r k ≡ some x) × (type_at a x ≡ t)) → cond b (some (type_at a y)) (field (field_types a r) k) ≡ some t
          → (x : ℕ) × (cond b (some y) (field r k) ≡ some x) × (type_at a x ≡ t)
      go true ih q = let p : type_at a y ≡ t = cc in (y, refl, p)
      go false ih q = ih q

pub types_all : {a : Nodes} → Chain a → (r : List ℕ) → all (is_term a) (odds r) ≡ true → all (is_type a) (odds (field_types a r)) ≡ true
unfolding field_types odds
types_all {a} c [] e = all0 (is_type a)
types_all {a} c (x ∷ []) e = all0 (is_type a)
types_all {a} c (x ∷ y ∷ r) e =
    let w = all-at (is_term a) y (odds r) e in
    all_cons (is_type a) (type_at a y) (odds (field_types a r)) (term_type c y w.0) (types_all c r w.1)

-- ---- what a field of a record means

pub rec-field : (f : ℕ → Value) (r : List ℕ) (k x : ℕ) → field r k ≡ some x → field_v k (rec_v (evens r) (map f (odds r))) ≡ f x
unfolding field evens odds rec_v field_v
rec-field f [] k x e = none≢some e
rec-field f (z ∷ []) k x e = none≢some e
rec-field f (z ∷ y ∷ r) k x e = go (eqb z k) (λ q. rec-field f r k x q) e
  where
    go : (b : Bool) → (field r k ≡ some x → field_v k (rec_v (evens r) (map f (odds r))) ≡ f x) → cond b (some y) (field r k) ≡ some x
        → cond b (f y) (field_v k (rec_v (evens r) (map f (odds r)))) ≡ f x
    go true ih q = let p : y ≡ x = cc in ap f p
    go false ih q = ih q
