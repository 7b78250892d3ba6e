use Rattle.compiler.specs.Compiler.{optioned}
use Rattle.nodes.proofs.Steps.{builds_as, builds_here}
use Rattle.compiled.proofs.optioned.Goals as goal

pub returns-then-option : goal.returns-then-option
unfolding optioned
returns-then-option c = builds_as (builds_here c.args.arena.now c.requires.arena c.args.p.0) (rw c.if-option.true)

pub returns : goal.returns
unfolding optioned
returns c = builds_as c.some_of.ensures (rw c.if-option.false)
