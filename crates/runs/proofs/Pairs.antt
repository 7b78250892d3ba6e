-- A run of fields, taken pair by pair.
use Rattle.std.proofs.Common.{◌≡◌, ℕ, ◌<◌, List, [], ◌∷◌, ◌++◌, length, get_or, Some, None, refl, arith}
use borrow.Author.Tests.{eq-eqb, ne_eqb}
use Rattle.arena.specs.Lists.{field}
use Rattle.runs.specs.Fields.{given}

-- a whole pair and the rest
pub paired : (r p t : List ℕ) → r ≡ p ++ t → length p ≡ 2 → r ≡ get_or p 0 0 ∷ get_or p 1 0 ∷ t
paired r [] t e h = absurd (omega arith)
paired r (x ∷ []) t e h = absurd (omega arith)
paired r (x ∷ y ∷ []) t e h = e
paired r (x ∷ y ∷ z ∷ p) t e h = absurd (omega arith)

module _ (k : ℕ) where
  pub given_here : (r p t : List ℕ) → r ≡ p ++ t → length p ≡ 2 → get_or p 0 0 ≡ k → Some (get_or p 1 0) ≡ given (field r k)
  unfolding field given
  given_here r p t e h f = rw (paired r p t e h, eq-eqb _ _ f)

  pub field_later : (r p t : List ℕ) → r ≡ p ++ t → length p ≡ 2 → (get_or p 0 0 ≡ k → ⊥) → field r k ≡ field t k
  unfolding field
  field_later r p t e h f = rw (paired r p t e h, ne_eqb _ _ f)

  -- no pair is left
  pub given_end : (r : List ℕ) → length r < 2 → None ≡ given (field r k)
  unfolding field given
  given_end [] h = refl
  given_end (x ∷ []) h = refl
  given_end (x ∷ y ∷ r) h = absurd (omega arith)
