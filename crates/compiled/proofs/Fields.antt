-- What a field's type that was found says.
use mathlib.Core.Path.{◌≡◌, refl, sym, ap, ◌∙◌}
use Prim.Native.Nat.{ℕ}
use mathlib.Core.List.{List}
use mathlib.Core.Option.{Option, some}
use Rattle.std.specs.Prelude.{Some, IsSome}
use Rattle.arena.specs.Lists.{field, field_d}
use Rattle.arena.proofs.Runs.{field-field_d}
use Rattle.runs.specs.Fields.{given}
use Rattle.runs.proofs.Given.{given_some}

pub found-there : (r : List ℕ) (k p : ℕ) → given (field r k) ≡ Some p → (field r k ≡ some (field_d r k)) × (field_d r k ≡ p)
found-there r k p e =
    let f = given_some (field r k) p e in let d = field-field_d r k p f in
    (f ∙ ap some (sym d), d)

pub there-found : (o : Option ℕ) (p : ℕ) → o ≡ some p → IsSome (given o)
unfolding given
there-found o p e = rw e refl
