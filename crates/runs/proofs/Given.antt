-- What the answer of a search of a field says of the run.
use Rattle.std.proofs.Common.{◌≡◌, ℕ, true, false, not, List, Some, None, is_some, unwrap_or, refl, ap}
use Rattle.std.specs.Prelude.{nat_eq}
use Rattle.std.specs.Option.{option_eq}
use Rattle.std.proofs.Math.Option.{none, some}
use Rattle.std.proofs.Math.Option as maybe
use Rattle.arena.specs.Lists.{field, field_d, holds_field}
use Rattle.runs.specs.Fields.{given}

-- `== Some(t)`
pub given_holds : (r : List ℕ) (k t : ℕ) → option_eq nat_eq (given (field r k)) (Some t) ≡ holds_field r k t
unfolding given holds_field
given_holds r k t = go (field r k)
  where
    go : (o : maybe.Option ℕ) → option_eq nat_eq (given o) (Some t) ≡ elim o [ none ↦ false | some p ↦ nat_eq p t ]
    go none = refl
    go (some p) = refl

-- `.unwrap_or(0)`
pub given_or_0 : (r : List ℕ) (k : ℕ) → unwrap_or (given (field r k)) 0 ≡ field_d r k
unfolding given field_d
given_or_0 r k = go (field r k)
  where
    go : (o : maybe.Option ℕ) → unwrap_or (given o) 0 ≡ elim o [ none ↦ 0 | some p ↦ p ]
    go none = refl
    go (some p) = refl

-- `.is_some()`
pub given_is_some : (o : maybe.Option ℕ) → is_some (given o) ≡ elim o [ none ↦ false | some p ↦ true ]
unfolding given
given_is_some none = refl
given_is_some (some p) = refl

-- `.is_none()`
pub given_is_none : (o : maybe.Option ℕ) → not (is_some (given o)) ≡ elim o [ none ↦ true | some p ↦ false ]
unfolding given
given_is_none none = refl
given_is_none (some p) = refl

-- the arms of a `match`
pub given_some : (o : maybe.Option ℕ) (p : ℕ) → given o ≡ Some p → o ≡ some p
unfolding given
given_some none p e = absurd (cc)
given_some (some q) p e = ap some (cc)

pub given_none : (o : maybe.Option ℕ) → given o ≡ None → o ≡ none
unfolding given
given_none none e = refl
given_none (some q) e = absurd (cc)
