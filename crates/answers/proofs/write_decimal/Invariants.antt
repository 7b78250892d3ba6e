-- The digits that are left, stored from the start, give the whole.
use lib.Seq.{sets}
use Rattle.answers.specs.Lines.{decimal}
use Rattle.answers.proofs.Turns.{Left}
use Rattle.answers.proofs.write_decimal.Given as goal

abbrev pub invariant-loop-place : goal.invariant-loop-place
invariant-loop-place l = Left l.at l.place l.rest l.out (sets l.initial.out l.at (decimal l.n))
