use Rattle.nodes.proofs.Steps.{builds_here, builds_as}
use Rattle.factory.specs.Helpers.{is_none_ite}
use Rattle.factory_helpers.proofs.is_none_ite.Goals as goal

pub returns-then-k-l : goal.returns-then-k-l
unfolding is_none_ite
returns-then-k-l c =
    builds_as (builds_here c.args.arena.now c.requires.arena 4) (rw (← c.kind_of-k.ensures, ← c.kind_of-l.ensures, c.if-k-l.true))

pub returns-then-k-l-2 : goal.returns-then-k-l-2
unfolding is_none_ite
returns-then-k-l-2 c =
    builds_as c.not.ensures (rw (← c.kind_of-k.ensures, ← c.kind_of-l.ensures, c.if-k-l.false, c.if-k-l-2.true))

pub returns-then-k-l-3 : goal.returns-then-k-l-3
unfolding is_none_ite
returns-then-k-l-3 c =
    builds_as (builds_here c.args.arena.now c.requires.arena c.args.g.0) (rw (← c.kind_of-k.ensures, ← c.kind_of-l.ensures, c.if-k-l.false, c.if-k-l-2.false, c.if-k-l-3.true))

pub returns : goal.returns
unfolding is_none_ite
returns c =
    builds_as c.eq_none.ensures (rw (← c.kind_of-k.ensures, ← c.kind_of-l.ensures, c.if-k-l.false, c.if-k-l-2.false, c.if-k-l-3.false))
