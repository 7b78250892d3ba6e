-- Small steps that many proofs take. Assumes nothing.
use mathlib.Core.Path.{◌≡◌, refl}
use mathlib.Core.Bool.{Bool, true, false, cond}

-- where the test holds, what stands for the other case does not matter
pub cond_else : {A : Type 0} (t : Bool) (x : A) {y z : A} → (t ≡ false → y ≡ z) → cond t x y ≡ cond t x z
cond_else true x h = refl
cond_else false x h = h refl

-- both cases alike
pub cond_same : {A : Type 0} (t : Bool) (x : A) → cond t x x ≡ x
cond_same true x = refl
cond_same false x = refl
