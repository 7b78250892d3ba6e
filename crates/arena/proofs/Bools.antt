-- Tests: what follows from one that holds, and from a list of them.
use mathlib.Core.Path.{◌≡◌, refl, sym}
use Prim.Native.Nat.{ℕ, suc, ◌≤◌}
use native.Mathlib.Omega.{arith}
use mathlib.Core.Bool.{Bool, true, false, cond, ◌&&◌, ◌||◌}
use mathlib.Core.Logic.{◌⊎◌, inl, inr}
use mathlib.Core.Option.{none, some}
use mathlib.Core.List.{List, [], ◌∷◌}
use lib.Dec.{eqb}
use borrow.Author.Tests.{eqb-true, eqb-false}
use Rattle.arena.specs.Lists.{every}

pub t≢f {ℓ} : {X : Type ℓ} → true ≡ false → X
t≢f e = let z : ◌≡◌ {A = ℕ} 0 1 = cc in absurd (omega arith)

-- no arena is there and not there
pub none≢some {ℓ} : {X : Type ℓ} {A : Type 0} {x : A} → none ≡ some x → X
none≢some e = let z : ◌≡◌ {A = ℕ} 0 1 = cc in absurd (omega arith)

pub and_l : (a b : Bool) → (a && b) ≡ true → a ≡ true
and_l true b e = refl
and_l false b e = e

pub and_r : (a b : Bool) → (a && b) ≡ true → b ≡ true
and_r true b e = e
and_r false b e = t≢f (sym e)

pub or_right : (b c : Bool) → c ≡ true → (b || c) ≡ true
or_right true c e = refl
or_right false c e = e

pub or_cases : (b c : Bool) → (b || c) ≡ true → (b ≡ true) ⊎ (c ≡ true)
or_cases true c e = inl refl
or_cases false c e = inr e

pub or_false_l : (b c : Bool) → (b || c) ≡ false → b ≡ false
or_false_l true c e = e
or_false_l false c e = refl

pub or_false_r : (b c : Bool) → (b || c) ≡ false → c ≡ false
or_false_r true c e = t≢f e
or_false_r false c e = e

-- where b decides d
pub or_and_in : (b c d : Bool) → (b ≡ true → d ≡ true) → (b || c && d) ≡ ((b || c) && d)
or_and_in true c d h = sym (h refl)
or_and_in false c d h = refl

pub or_and_out : (b c d : Bool) → (b ≡ true → d ≡ false) → (c && d) ≡ ((b || c) && d)
or_and_out true true d h = refl
or_and_out true false d h = sym (h refl)
or_and_out false c d h = refl

-- two tests that follow from each other are one
pub both_ways : (a b : Bool) → (a ≡ true → b ≡ true) → (b ≡ true → a ≡ true) → a ≡ b
both_ways true b f g = sym (f refl)
both_ways false true f g = g refl
both_ways false false f g = refl

-- ---- lists of tests

abbrev pub Every : List Bool → Type 0
Every [] = Unit {0}
Every (b ∷ bs) = (b ≡ true) × Every bs

pub every-all : (bs : List Bool) → every bs ≡ true → Every bs
unfolding every
every-all [] e = tt
every-all (b ∷ bs) e = (and_l b (every bs) e, every-all bs (and_r b (every bs) e))

pub all-every : (bs : List Bool) → Every bs → every bs ≡ true
unfolding every
all-every [] e = refl
all-every (b ∷ bs) e = rw e.0 (all-every bs e.1)

-- the first holds, or does not
pub every_on : (a r : Bool) (bs : List Bool) → a ≡ true → r ≡ every bs → r ≡ every (a ∷ bs)
unfolding every
every_on a r bs e f = rw e f

pub every_off : (a : Bool) (bs : List Bool) → a ≡ false → false ≡ every (a ∷ bs)
unfolding every
every_off a bs e = rw e

pub every_one : (b : Bool) → b ≡ every (b ∷ [])
unfolding every
every_one true = refl
every_one false = refl

-- ---- by cases

pub branch {ℓ} : {G : Type ℓ} (b x y : Bool) → cond b x y ≡ true → (b ≡ true → x ≡ true → G) → (b ≡ false → y ≡ true → G) → G
branch true x y e f g = f refl e
branch false x y e f g = g refl e

pub by_cases {ℓ} : {A : Type 0} (P : A → Type ℓ) (b : Bool) (x y : A) → (b ≡ true → P x) → (b ≡ false → P y) → P (cond b x y)
by_cases P true x y f g = f refl
by_cases P false x y f g = g refl

-- a number at or above another: at it, or above it
pub from {ℓ} : {G : Type ℓ} (k m : ℕ) → m ≤ k → (k ≡ m → G) → (suc m ≤ k → G) → G
from {G = G} k m h f g = go (eqb k m) refl
  where
    go : (b : Bool) → eqb k m ≡ b → G
    go true e = f (eqb-true k m e)
    go false e = let n = eqb-false k m e in g (omega arith)
