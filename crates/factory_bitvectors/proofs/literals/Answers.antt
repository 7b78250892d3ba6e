use Rattle.factory.specs.Bitvectors.{literals_at}
use Rattle.factory_bitvectors.proofs.literals.Goals as goal

pub returns-then-kind_of : goal.returns-then-kind_of
unfolding literals_at
returns-then-kind_of c = rw (← c.kind_of.ensures, ← c.kind_of-2.ensures, c.if-kind_of.true, c.par_of.ensures, c.par_of-then-kind_of.ensures)

pub returns : goal.returns
unfolding literals_at
returns c = rw (← c.kind_of.ensures, ← c.kind_of-2.ensures, c.if-kind_of.false)
