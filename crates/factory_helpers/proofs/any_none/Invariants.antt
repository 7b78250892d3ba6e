use lib.ListN.{drop}
use Rattle.factory.specs.Helpers.{any_none}
use Rattle.factory.proofs.Turns.{Left}
use Rattle.factory_helpers.proofs.any_none.Given as goal

abbrev pub invariant-loop-g : goal.invariant-loop-g
invariant-loop-g l = Left (λ a. any_none a l.gs) l.initial.arena l.arena l.acc.0 (drop l.g-index l.gs)
