-- A test of what the pairs of a run hold, pair by pair.
use mathlib.Core.Path.{◌≡◌, refl, sym, ap, ◌∙◌}
use Prim.Native.Nat.{ℕ, ◌<◌}
use native.Mathlib.Omega.{arith}
use mathlib.Core.Bool.{Bool, true, false, ◌&&◌}
use mathlib.Core.List.{List, [], ◌∷◌, ◌++◌}
use lib.ListN.{length, get_or}
use Rattle.arena.specs.Lists.{all, any, odds}
use Rattle.arena.proofs.Bools.{and_l, and_r}
use Rattle.runs.proofs.Pairs.{paired}

module _ (f : ℕ → Bool) (r p t : List ℕ) (e : r ≡ p ++ t) (h : length p ≡ 2) where
  turn : odds r ≡ get_or p 1 0 ∷ odds t
  unfolding odds
  turn = rw (paired r p t e h)

  pub held_pass : f (get_or p 1 0) ≡ true → all f (odds r) ≡ all f (odds t)
  unfolding all
  held_pass q = rw (turn, q)

  pub held_fail : f (get_or p 1 0) ≡ false → all f (odds r) ≡ false
  unfolding all
  held_fail q = rw (turn, q)

  pub held_hit : f (get_or p 1 0) ≡ true → any f (odds r) ≡ true
  unfolding any
  held_hit q = rw (turn, q)

  pub held_miss : f (get_or p 1 0) ≡ false → any f (odds r) ≡ any f (odds t)
  unfolding any
  held_miss q = rw (turn, q)

  each : all f (odds r) ≡ true → (f (get_or p 1 0) && all f (odds t)) ≡ true
  unfolding all
  each q = sym (ap (all f) turn) ∙ q

  pub held_first : all f (odds r) ≡ true → f (get_or p 1 0) ≡ true
  held_first q = and_l _ _ (each q)

  pub held_rest : all f (odds r) ≡ true → all f (odds t) ≡ true
  held_rest q = and_r _ _ (each q)

-- no pair is left
module _ (f : ℕ → Bool) where
  pub held_all : (r : List ℕ) → length r < 2 → all f (odds r) ≡ true
  unfolding all odds
  held_all [] h = refl
  held_all (x ∷ []) h = refl
  held_all (x ∷ y ∷ r) h = absurd (omega arith)

  pub held_none : (r : List ℕ) → length r < 2 → any f (odds r) ≡ false
  unfolding any odds
  held_none [] h = refl
  held_none (x ∷ []) h = refl
  held_none (x ∷ y ∷ r) h = absurd (omega arith)
