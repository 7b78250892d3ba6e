-- The order of values is total: each value has its own tree, and trees are compared by their leaves.
use mathlib.Core.Path.{◌≡◌, refl, sym, ap, ap₂, ◌∙◌}
use Prim.Native.Nat.{ℕ, ◌<◌, compare, Ordering}
use native.Mathlib.Omega.{arith}
use mathlib.Core.Bool.{true, false, cond}
use mathlib.Core.Logic.{◌⊎◌, inl, inr}
use lib.Dec.{eqb, is_le}
use borrow.Author.Tests.{eqb-true, eqb-false, leb-true, leb-false}
use Rattle.arena.specs.Values.{Value, bool, bits, vnone, vsome, vset, vrec, Values, vnil, vcons, VFields, fnil, fcons, Tree, leaf, fork, code, codes, codef, then_by, compare_t}
use lib.Dec

-- ---- the value of a tree

leaf_of : Tree → ℕ
leaf_of (leaf n) = n
leaf_of (fork x y) = 0

mutual
  unfolding leaf_of

  decode : Tree → Value
  decode (leaf n) = vnone
  decode (fork (fork x z) y) = vnone
  decode (fork (leaf t) y) =
      cond (eqb t 0) (bool (eqb (leaf_of y) 1))
      (cond (eqb t 1) (bits (leaf_of y))
      (cond (eqb t 2) vnone
      (cond (eqb t 3) (vsome (decode y))
      (cond (eqb t 4) (vset (decodes y)) (vrec (decodef y))))))

  decodes : Tree → Values
  decodes (leaf n) = vnil
  decodes (fork x y) = vcons (decode x) (decodes y)

  decodef : Tree → VFields
  decodef (leaf n) = fnil
  decodef (fork (fork x z) y) = fnil
  decodef (fork (leaf k) (leaf n)) = fnil
  decodef (fork (leaf k) (fork x y)) = fcons k (decode x) (decodef y)

mutual
  unfolding code decode leaf_of

  decode_code : (v : Value) → decode (code v) ≡ v
  decode_code (bool true) = refl
  decode_code (bool false) = refl
  decode_code (bits n) = refl
  decode_code vnone = refl
  decode_code (vsome v) = ap vsome (decode_code v)
  decode_code (vset vs) = ap vset (decode_codes vs)
  decode_code (vrec fs) = ap vrec (decode_codef fs)

  decode_codes : (vs : Values) → decodes (codes vs) ≡ vs
  decode_codes vnil = refl
  decode_codes (vcons v vs) = ap₂ vcons (decode_code v) (decode_codes vs)

  decode_codef : (fs : VFields) → decodef (codef fs) ≡ fs
  decode_codef fnil = refl
  decode_codef (fcons k v fs) = ap₂ (fcons k) (decode_code v) (decode_codef fs)

pub code_inj : (v w : Value) → code v ≡ code w → v ≡ w
code_inj v w e = sym (decode_code v) ∙ ap decode e ∙ decode_code w

-- ---- the order of trees

-- two constructors are never equal
lt≢eq : {X : Type 0} → Ordering.lt ≡ Ordering.eq → X
lt≢eq e = let z : ◌≡◌ {A = ℕ} 0 1 = cc in absurd (omega arith)

lt≢gt : {X : Type 0} → Ordering.lt ≡ Ordering.gt → X
lt≢gt e = let z : ◌≡◌ {A = ℕ} 0 1 = cc in absurd (omega arith)

eq≢gt : {X : Type 0} → Ordering.eq ≡ Ordering.gt → X
eq≢gt e = let z : ◌≡◌ {A = ℕ} 0 1 = cc in absurd (omega arith)

cmp_eq : (m n : ℕ) → compare m n ≡ Ordering.eq → m ≡ n
cmp_eq m n e = eqb-true m n (ap Dec.compare_is_eq e)

cmp_gt : (m n : ℕ) → compare m n ≡ Ordering.gt → n < m
cmp_gt m n e = leb-false m n (ap is_le e)

cmp_lt : (m n : ℕ) → compare m n ≡ Ordering.lt → m < n
cmp_lt m n e =
    let h = leb-true m n (ap is_le e) in
    let k = eqb-false m n (ap Dec.compare_is_eq e) in
    omega arith

lt_cmp : (m n : ℕ) → m < n → compare m n ≡ Ordering.lt
lt_cmp m n h = go (compare m n) refl
  where
    go : (o : Ordering) → compare m n ≡ o → compare m n ≡ Ordering.lt
    go Ordering.lt e = e
    go Ordering.eq e = let k = cmp_eq m n e in absurd (omega arith)
    go Ordering.gt e = let k = cmp_gt m n e in absurd (omega arith)

cmp_refl : (n : ℕ) → compare n n ≡ Ordering.eq
cmp_refl n = go (compare n n) refl
  where
    go : (o : Ordering) → compare n n ≡ o → compare n n ≡ Ordering.eq
    go Ordering.lt e = let k = cmp_lt n n e in absurd (omega arith)
    go Ordering.eq e = e
    go Ordering.gt e = let k = cmp_gt n n e in absurd (omega arith)

then_eq : (a b : Ordering) → then_by a b ≡ Ordering.eq → (a ≡ Ordering.eq) × (b ≡ Ordering.eq)
then_eq Ordering.lt b e = lt≢eq e
then_eq Ordering.eq b e = (refl, e)
then_eq Ordering.gt b e = eq≢gt (sym e)

then_lt : (a b : Ordering) → then_by a b ≡ Ordering.lt → (a ≡ Ordering.lt) ⊎ ((a ≡ Ordering.eq) × (b ≡ Ordering.lt))
then_lt Ordering.lt b e = inl refl
then_lt Ordering.eq b e = inr (refl, e)
then_lt Ordering.gt b e = lt≢gt (sym e)

then_gt : (a b : Ordering) → then_by a b ≡ Ordering.gt → (a ≡ Ordering.gt) ⊎ ((a ≡ Ordering.eq) × (b ≡ Ordering.gt))
then_gt Ordering.lt b e = lt≢gt e
then_gt Ordering.eq b e = inr (refl, e)
then_gt Ordering.gt b e = inl refl

pub tree_refl : (x : Tree) → compare_t x x ≡ Ordering.eq
unfolding compare_t
tree_refl (leaf n) = cmp_refl n
tree_refl (fork x y) = rw (tree_refl x) (tree_refl y)

pub tree_eq : (x y : Tree) → compare_t x y ≡ Ordering.eq → x ≡ y
unfolding compare_t
tree_eq (leaf m) (leaf n) e = ap leaf (cmp_eq m n e)
tree_eq (leaf m) (fork z w) e = lt≢eq e
tree_eq (fork x y) (leaf n) e = eq≢gt (sym e)
tree_eq (fork x y) (fork z w) e =
    let r = then_eq (compare_t x z) (compare_t y w) e in
    ap₂ fork (tree_eq x z r.0) (tree_eq y w r.1)

pub tree_flip : (x y : Tree) → compare_t x y ≡ Ordering.gt → compare_t y x ≡ Ordering.lt
unfolding compare_t
tree_flip (leaf m) (leaf n) e = lt_cmp n m (cmp_gt m n e)
tree_flip (leaf m) (fork z w) e = lt≢gt e
tree_flip (fork x y) (leaf n) e = refl
tree_flip (fork x y) (fork z w) e = go (λ h. tree_flip x z h) (λ h. tree_flip y w h) (then_gt (compare_t x z) (compare_t y w) e)
  where
    go : (compare_t x z ≡ Ordering.gt → compare_t z x ≡ Ordering.lt) → (compare_t y w ≡ Ordering.gt → compare_t w y ≡ Ordering.lt)
        → (compare_t x z ≡ Ordering.gt) ⊎ ((compare_t x z ≡ Ordering.eq) × (compare_t y w ≡ Ordering.gt))
        → then_by (compare_t z x) (compare_t w y) ≡ Ordering.lt
    go f g (inl h) = rw (f h)
    go f g (inr h) = rw (ap (λ (t : Tree). compare_t z t) (tree_eq x z h.0) ∙ tree_refl z) (g h.1)

pub tree_trans : (x y z : Tree) → compare_t x y ≡ Ordering.lt → compare_t y z ≡ Ordering.lt → compare_t x z ≡ Ordering.lt
unfolding compare_t
tree_trans (leaf m) (leaf n) (leaf k) e f = let p = cmp_lt m n e in let q = cmp_lt n k f in lt_cmp m k (omega arith)
tree_trans (leaf m) (leaf n) (fork u v) e f = refl
tree_trans (leaf m) (fork x y) (leaf k) e f = lt≢gt (sym f)
tree_trans (leaf m) (fork x y) (fork u v) e f = refl
tree_trans (fork a b) (leaf n) z e f = lt≢gt (sym e)
tree_trans (fork a b) (fork x y) (leaf k) e f = lt≢gt (sym f)
tree_trans (fork a b) (fork x y) (fork u v) e f =
    go (λ p q. tree_trans a x u p q) (λ p q. tree_trans b y v p q) (then_lt (compare_t a x) (compare_t b y) e) (then_lt (compare_t x u) (compare_t y v) f)
  where
    Either : Tree → Tree → Tree → Tree → Type 0
    Either x z y w = (compare_t x z ≡ Ordering.lt) ⊎ ((compare_t x z ≡ Ordering.eq) × (compare_t y w ≡ Ordering.lt))

    go : (compare_t a x ≡ Ordering.lt → compare_t x u ≡ Ordering.lt → compare_t a u ≡ Ordering.lt) → (compare_t b y ≡ Ordering.lt → compare_t y v ≡ Ordering.lt → compare_t b v ≡ Ordering.lt)
        → Either a x b y → Either x u y v → then_by (compare_t a u) (compare_t b v) ≡ Ordering.lt
    go f g (inl h) (inl k) = rw (f h k)
    go f g (inl h) (inr k) = rw (ap (λ (t : Tree). compare_t a t) (sym (tree_eq x u k.0)) ∙ h)
    go f g (inr h) (inl k) = rw (ap (λ (t : Tree). compare_t t u) (tree_eq a x h.0) ∙ k)
    go f g (inr h) (inr k) = rw (ap (λ (t : Tree). compare_t t u) (tree_eq a x h.0) ∙ k.0) (g h.1 k.1)
