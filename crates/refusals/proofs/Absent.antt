-- `.is_none()` of a search of a field.
use Rattle.std.proofs.Common.{◌≡◌, ℕ, Bool, true, false, not, is_some, refl}
use Rattle.std.proofs.Math.Option.{Option, none, some}
use Rattle.arena.proofs.Bools.{t≢f}
use Rattle.runs.specs.Fields.{given}

pub absent_is : (o : Option ℕ) (b : Bool) → is_some (given o) ≡ not b → b ≡ elim o [ none ↦ true | some t ↦ false ]
unfolding given
absent_is none true e = refl
absent_is none false e = absurd (cc)
absent_is (some t) true e = t≢f e
absent_is (some t) false e = refl
