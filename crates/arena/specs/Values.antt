-- Types by structure, values, a total order of values, and finite sets as strictly rising runs of values, so that equal sets are equal values.
use Prim.Native.Nat.{ℕ, ◌^◌, compare, Ordering}
use Rattle.std.specs.Prelude.{Bool, true, false, cond, ◌&&◌, ◌||◌, List, [], ◌∷◌, eqb, ltb}
use Rattle.arena.specs.Lists.{every}

mutual
  pub data Ty : Type 0 where
    tbool : Ty
    tbv : ℕ → Ty
    topt : Ty → Ty
    tset : Ty → Ty
    trec : TFields → Ty

  pub data TFields : Type 0 where
    tnil : TFields
    tcons : ℕ → Ty → TFields → TFields

mutual
  pub data Value : Type 0 where
    bool : Bool → Value
    bits : ℕ → Value
    vnone : Value
    vsome : Value → Value
    vset : Values → Value
    vrec : VFields → Value

  pub data Values : Type 0 where
    vnil : Values
    vcons : Value → Values → Values

  pub data VFields : Type 0 where
    fnil : VFields
    fcons : ℕ → Value → VFields → VFields

-- ---- an order, by way of trees: each value has its own

pub data Tree : Type 0 where
  leaf : ℕ → Tree
  fork : Tree → Tree → Tree

abbrev pub bit : Bool → ℕ
bit true = 1
bit false = 0

unfoldable mutual
  pub code : Value → Tree
  code (bool b) = fork (leaf 0) (leaf (bit b))
  code (bits n) = fork (leaf 1) (leaf n)
  code vnone = fork (leaf 2) (leaf 0)
  code (vsome v) = fork (leaf 3) (code v)
  code (vset vs) = fork (leaf 4) (codes vs)
  code (vrec fs) = fork (leaf 5) (codef fs)

  pub codes : Values → Tree
  codes vnil = leaf 0
  codes (vcons v vs) = fork (code v) (codes vs)

  pub codef : VFields → Tree
  codef fnil = leaf 0
  codef (fcons k v fs) = fork (leaf k) (fork (code v) (codef fs))

-- the first decides, unless it is equal
abbrev pub then_by : Ordering → Ordering → Ordering
then_by Ordering.lt r = Ordering.lt
then_by Ordering.eq r = r
then_by Ordering.gt r = Ordering.gt

unfoldable pub compare_t : Tree → Tree → Ordering
compare_t (leaf m) (leaf n) = compare m n
compare_t (leaf m) (fork x y) = Ordering.lt
compare_t (fork x y) (leaf n) = Ordering.gt
compare_t (fork x y) (fork z w) = then_by (compare_t x z) (compare_t y w)

unfoldable pub compare_v : Value → Value → Ordering
compare_v v w = compare_t (code v) (code w)

abbrev pub is_eq : Ordering → Bool
is_eq Ordering.lt = false
is_eq Ordering.eq = true
is_eq Ordering.gt = false

abbrev pub is_lt : Ordering → Bool
is_lt Ordering.lt = true
is_lt Ordering.eq = false
is_lt Ordering.gt = false

unfoldable pub eq_v : Value → Value → Bool
eq_v v w = is_eq (compare_v v w)

unfoldable pub lt_v : Value → Value → Bool
lt_v v w = is_lt (compare_v v w)

-- ---- finite sets

unfoldable pub rising_v : Values → Bool
rising_v vnil = true
rising_v (vcons v vnil) = true
rising_v (vcons v (vcons w r)) = lt_v v w && rising_v (vcons w r)

unfoldable pub insert_v : Value → Values → Values
insert_v v vnil = vcons v vnil
insert_v v (vcons w r) = elim (compare_v v w) [ Ordering.lt ↦ vcons v (vcons w r) | Ordering.eq ↦ vcons w r | Ordering.gt ↦ vcons w (insert_v v r) ]

-- the set of the values in a list
unfoldable pub set_v : List Value → Values
set_v [] = vnil
set_v (v ∷ vs) = insert_v v (set_v vs)

unfoldable pub mem_v : Value → Values → Bool
mem_v v vnil = false
mem_v v (vcons w r) = eq_v v w || mem_v v r

unfoldable pub subset_v : Values → Values → Bool
subset_v vnil s = true
subset_v (vcons v r) s = mem_v v s && subset_v r s

unfoldable pub inter_v : Values → Values → Values
inter_v vnil s = vnil
inter_v (vcons v r) s = cond (mem_v v s) (vcons v (inter_v r s)) (inter_v r s)

-- ---- records

-- attributes and what they hold
unfoldable pub rec_v : List ℕ → List Value → VFields
rec_v [] vs = fnil
rec_v (k ∷ ks) [] = fnil
rec_v (k ∷ ks) (v ∷ vs) = fcons k v (rec_v ks vs)

unfoldable pub field_v : ℕ → VFields → Value
field_v k fnil = vnone
field_v k (fcons j v fs) = cond (eqb j k) v (field_v k fs)

-- ---- readings

-- by the sort of value: bool, number, none, some, set, record
abbrev pub case_v : {X : Type 0} → (Bool → X) → (ℕ → X) → X → (Value → X) → (Values → X) → (VFields → X) → Value → X
case_v b n o s vs fs (bool x) = b x
case_v b n o s vs fs (bits x) = n x
case_v b n o s vs fs vnone = o
case_v b n o s vs fs (vsome x) = s x
case_v b n o s vs fs (vset x) = vs x
case_v b n o s vs fs (vrec x) = fs x

unfoldable pub as_bool : Value → Bool
as_bool = case_v (λ b. b) (λ n. false) false (λ v. false) (λ vs. false) (λ fs. false)

unfoldable pub as_bits : Value → ℕ
as_bits = case_v (λ b. 0) (λ n. n) 0 (λ v. 0) (λ vs. 0) (λ fs. 0)

unfoldable pub as_set : Value → Values
as_set = case_v (λ b. vnil) (λ n. vnil) vnil (λ v. vnil) (λ vs. vs) (λ fs. vnil)

unfoldable pub as_rec : Value → VFields
as_rec = case_v (λ b. fnil) (λ n. fnil) fnil (λ v. fnil) (λ vs. fnil) (λ fs. fs)

-- what is in some, else d
unfoldable pub value_or : Value → Value → Value
value_or d = case_v (λ b. d) (λ n. d) d (λ v. v) (λ vs. d) (λ fs. d)

-- ---- a value of a type

unfoldable pub all_v : (Value → Bool) → Values → Bool
all_v f vnil = true
all_v f (vcons v r) = f v && all_v f r

unfoldable mutual
  pub fits : Ty → Value → Bool
  fits tbool = case_v (λ b. true) (λ n. false) false (λ v. false) (λ vs. false) (λ fs. false)
  fits (tbv w) = case_v (λ b. false) (λ n. ltb n (2 ^ w)) false (λ v. false) (λ vs. false) (λ fs. false)
  fits (topt t) = case_v (λ b. false) (λ n. false) true (λ v. fits t v) (λ vs. false) (λ fs. false)
  fits (tset t) = case_v (λ b. false) (λ n. false) false (λ v. false) (λ vs. every (all_v (λ v. fits t v) vs ∷ rising_v vs ∷ [])) (λ fs. false)
  fits (trec ts) = case_v (λ b. false) (λ n. false) false (λ v. false) (λ vs. false) (λ fs. fits_all ts fs)

  pub fits_all : TFields → VFields → Bool
  fits_all tnil fnil = true
  fits_all tnil (fcons j v fs) = false
  fits_all (tcons k t ts) fnil = false
  fits_all (tcons k t ts) (fcons j v fs) = every (eqb k j ∷ fits t v ∷ fits_all ts fs ∷ [])

-- the type's zero value
unfoldable mutual
  pub zero_of : Ty → Value
  zero_of tbool = bool false
  zero_of (tbv w) = bits 0
  zero_of (topt t) = vnone
  zero_of (tset t) = vset vnil
  zero_of (trec ts) = vrec (zeros_of ts)

  pub zeros_of : TFields → VFields
  zeros_of tnil = fnil
  zeros_of (tcons k t ts) = fcons k (zero_of t) (zeros_of ts)
