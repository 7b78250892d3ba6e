-- The digits of a number in a base, low digit first and no more than it needs.
use Rattle.std.specs.Prelude.{ℕ, zero, suc, ◌/◌, ◌%◌, cond, List, [], ◌∷◌, ltb}

-- the same, where it needs at most k; `rest` has a name so that it is computed only where it is asked for
unfoldable pub digits_in : ℕ → ℕ → ℕ → List ℕ
digits_in b zero n = []
digits_in b (suc k) n = cond (ltb n b) (n ∷ []) (let rest = digits_in b k (n / b) in n % b ∷ rest)

-- n itself where it is below the base, else n % b and then the digits of n / b
unfoldable pub digits : ℕ → ℕ → List ℕ
digits b n = digits_in b (suc n) n
