use Rattle.arena.specs.WellFormed.{IsArena}
use Rattle.cells.proofs.walk.Given as goal

abbrev pub invariant-loop-line : goal.invariant-loop-line
invariant-loop-line g l = IsArena l.cells l.place.mark
