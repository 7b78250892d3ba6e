-- One turn of the loops over members and fields. Assumes nothing.
use mathlib.Core.Path.{◌≡◌, refl, sym, ap, ◌∙◌}
use Prim.Native.Nat.{ℕ, suc, ◌+◌, ◌≤◌, ◌<◌}
use native.Mathlib.Omega.{arith}
use native.Mathlib.Numerals.{add-one}
use mathlib.Core.Bool.{Bool, true, false, cond}
use mathlib.Core.Option.{Option, none, some}
use mathlib.Core.List.{List, [], ◌∷◌, ◌++◌, append_assoc, append-nil}
use lib.Dec.{eqb}
use lib.ListN.{length, take, drop, set, get_or, length-set, length-append, drop_of_length-le}
use lib.Seq.{set_split, length-take-le, take-suc-set, drop-set-lt}
use borrow.Author.Tests.{eq-eqb, ne_eqb, eqb-true, eqb-false}
use Rattle.std.specs.Prelude.{nat_eq, ◌||◌}
use Rattle.std.specs.List.{list_any}
use Rattle.arena.specs.Lists.{all, any, odds, mem?, common, field, field_d}
use Rattle.arena.specs.Nodes.{Nodes, type_at, field_types}
use Rattle.arena.specs.WellFormed.{is_term}
use Rattle.arena.specs.Runs.{Holds}
use Rattle.arena.proofs.Runs.{all-at}
use Rattle.factory.specs.SetSteps.{is_nil}
use Rattle.arena.proofs.Insertion.{holds_of, holds-length}
use Rattle.arena.proofs.Loops.{one, two, few, Few, f0, f1}

-- ---- common: what is kept so far stands before what the rest gives

pub common-next : (l r t t' : List ℕ) (i : ℕ) (b : Bool) → i < length l → b ≡ mem? (get_or l i 0) r → t' ≡ cond b (t ++ (get_or l i 0 ∷ [])) t
    → t ++ common (drop i l) r ≡ t' ++ common (drop (i + 1) l) r
unfolding common
common-next l r t t' i true h e f = rw (one l i h, sym e, f) (sym (append_assoc t (get_or l i 0 ∷ []) (common (drop (i + 1) l) r)))
common-next l r t t' i false h e f = rw (one l i h, sym e, f)

pub common_end : (l r t : List ℕ) (i : ℕ) → length l ≤ i → t ++ common (drop i l) r ≡ t
unfolding common
common_end l r t i h = rw (drop_of_length-le l {i = i} h) (append-nil t)

-- ---- one number written behind the front

pub holds-one : (b : List ℕ) (n x : ℕ) → n < length b → Holds (take n b ++ (x ∷ [])) b (n + 1) (set b n x)
holds-one b n x h =
    let e : suc n ≡ n + 1 = omega arith in
    let l = length-append (take n b) (x ∷ []) in
    let k = length-take-le n b (omega arith) in
    holds_of (omega arith) (set_split b n x h ∙ sym (append_assoc (take n b) (x ∷ []) (drop (suc n) b)) ∙ ap (λ (j : ℕ). (take n b ++ (x ∷ [])) ++ drop j b) e)

-- ---- two numbers written one after the other

pub pair_front : (b : List ℕ) (i x y : ℕ) → i + 1 < length b → take (i + 2) (set (set b i x) (i + 1) y) ≡ take i b ++ (x ∷ y ∷ [])
pair_front b i x y h =
    let l = length-set b i x in
    let e : suc (i + 1) ≡ i + 2 = omega arith in
    let p : take (i + 2) (set (set b i x) (i + 1) y) ≡ take (i + 1) (set b i x) ++ (y ∷ []) = ap (λ (n : ℕ). take n (set (set b i x) (i + 1) y)) (sym e) ∙ take-suc-set (set b i x) (i + 1) y (omega arith) in
    let q : take (i + 1) (set b i x) ≡ take i b ++ (x ∷ []) = rw add-one (take-suc-set b i x (omega arith)) in
    p ∙ ap (λ (t : List ℕ). t ++ (y ∷ [])) q ∙ append_assoc (take i b) (x ∷ []) (y ∷ [])

pub pair_back : (b : List ℕ) (i x y n : ℕ) → i + 2 ≤ n → drop n (set (set b i x) (i + 1) y) ≡ drop n b
pair_back b i x y n h = drop-set-lt n (set b i x) (i + 1) y (omega arith) ∙ drop-set-lt n b i x (omega arith)

pub types_next : (a : Nodes) (l b : List ℕ) (i j v : ℕ) → i + 2 ≡ j → i + 1 < length l → i + 1 < length b → v ≡ type_at a (get_or l (i + 1) 0)
    → take i b ++ field_types a (drop i l) ≡ take j (set (set b i (get_or l i 0)) (i + 1) v) ++ field_types a (drop j l)
unfolding field_types
types_next a l b i j v q h k e =
    rw (← q, two l i h, pair_front b i (get_or l i 0) v k, e) (sym (append_assoc (take i b) (get_or l i 0 ∷ type_at a (get_or l (i + 1) 0) ∷ []) (field_types a (drop (i + 2) l))))

pub types_last : (a : Nodes) (l t : List ℕ) (i : ℕ) → length l ≤ i + 1 → t ++ field_types a (drop i l) ≡ t
unfolding field_types
types_last a l t i h = go (few l i h)
  where
    go : {r : List ℕ} → Few r → t ++ field_types a r ≡ t
    go f0 = append-nil t
    go (f1 x) = append-nil t

-- the term of the next field, and those behind it
pub odd_term : (a : Nodes) (l : List ℕ) (i j : ℕ) → i + 2 ≡ j → i + 1 < length l → all (is_term a) (odds (drop i l)) ≡ true
    → (is_term a (get_or l (i + 1) 0) ≡ true) × (all (is_term a) (odds (drop j l)) ≡ true)
unfolding odds
odd_term a l i j q h e = rw (← q) (all-at (is_term a) (get_or l (i + 1) 0) (odds (drop (i + 2) l)) (ap (λ (r : List ℕ). all (is_term a) (odds r)) (sym (two l i h)) ∙ e))

pub types_held : (l : List ℕ) {b b₀ t : List ℕ} {i : ℕ} → i ≡ length l → length b ≡ length b₀ → length l ≤ length b₀ → t ≡ take i b → drop (length l) b ≡ drop (length l) b₀
    → Holds t b₀ (length l) b
types_held l {b} {t = t} {i = i} e n h f g =
    let k = length-take-le i b (omega arith) in
    let x : length t ≡ length (take i b) = ap length f in
    record { count = omega arith; fits = omega arith; front = ap (λ (j : ℕ). take j b) (sym e) ∙ sym f; back = g }

-- the types of the fields that a buffer holds
pub types_front : (a : Nodes) {r b₀ b d₀ d : List ℕ} {n : ℕ} → Holds r b₀ n b → Holds (field_types a (take n b)) d₀ (length (take n b)) d → take n d ≡ field_types a r
types_front a {d = d} {n = n} h k = ap (λ (j : ℕ). take j d) (holds-length h) ∙ k.front ∙ ap (field_types a) h.front

-- ---- no member

pub nil_length : (l : List ℕ) → eqb (length l) 0 ≡ is_nil l
unfolding is_nil
nil_length [] = refl
nil_length (x ∷ l) = ne_eqb (length (x ∷ l)) 0 (λ e. omega arith)

-- ---- the attribute's field, or 0

-- what `contains` answers
turned : (x y : ℕ) → eqb y x ≡ eqb x y
turned x y = go (eqb x y) refl
  where
    go : (b : Bool) → eqb x y ≡ b → eqb y x ≡ b
    go true e = eq-eqb y x (sym (eqb-true x y e))
    go false e = ne_eqb y x (λ h. eqb-false x y e (sym h))

pub contains_mem : (x : ℕ) (ys : List ℕ) → list_any (λ y. nat_eq y x) ys ≡ mem? x ys
unfolding any
contains_mem x [] = refl
contains_mem x (y ∷ ys) = λ i. turned x y i || contains_mem x ys i
