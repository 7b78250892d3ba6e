-- What is left has the digits that are not counted.
use Rattle.codec.proofs.Turns.{Counting}
use Rattle.codec.proofs.digit_count.Given as goal

abbrev pub invariant-loop-rest : goal.invariant-loop-rest
invariant-loop-rest l =
    Counting l.base l.n l.rest l.count

abbrev pub decreases-loop-rest : goal.decreases-loop-rest
decreases-loop-rest l = l.rest
