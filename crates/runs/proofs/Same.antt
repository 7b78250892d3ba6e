-- `==` of two slices is the definitions' test.
use Rattle.std.proofs.Common.{◌≡◌, ℕ, ◌&&◌, List, [], ◌∷◌, eqb, refl, sym, ap, ap₂, ◌∙◌, Bool, true, false}
use borrow.Author.Tests.{eq-eqb, ne_eqb, eqb-true, eqb-false}
use Rattle.std.specs.Cmp.Lexicographic.{pointwise}
use Rattle.arena.specs.Lists.{same_list}

pub pointwise_turned : (a b : List ℕ) → pointwise eqb a b ≡ same_list b a
unfolding same_list
pointwise_turned [] [] = refl
pointwise_turned [] (y ∷ b) = refl
pointwise_turned (x ∷ a) [] = refl
pointwise_turned (x ∷ a) (y ∷ b) = ap₂ ◌&&◌ (turned (eqb x y) refl) (pointwise_turned a b)
  where
    turned : (t : Bool) → eqb x y ≡ t → eqb x y ≡ eqb y x
    turned true e = e ∙ sym (eq-eqb y x (sym (eqb-true x y e)))
    turned false e = e ∙ sym (ne_eqb y x (λ z. eqb-false x y e (sym z)))
