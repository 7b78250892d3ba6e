-- What the search of a field gives: an Option of the code for an Option of the definitions.
use Rattle.std.specs.Prelude.{ℕ, Option, Some, None}
use Rattle.std.proofs.Math.Option.{none, some}
use Rattle.std.proofs.Math.Option as maybe

unfoldable pub given : maybe.Option ℕ → Option ℕ
given none = None
given (some p) = Some p
