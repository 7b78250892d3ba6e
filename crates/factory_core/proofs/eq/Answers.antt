use mathlib.Core.Path.{sym, ◌∙◌}
use lib.Dec.{eqb}
use borrow.Author.Tests.{eqb-true}
use Rattle.arena.proofs.Bools.{and_l, and_r}
use Rattle.nodes.proofs.Steps.{builds_here, builds_as}
use Rattle.factory.specs.Core.{eq_t}
use Rattle.factory.proofs.Calls.{ready_wf}
use Rattle.factory.proofs.Operands.{some_alike}
use Rattle.factory_core.proofs.eq.Goals as goal

pub eq_simplify-requires : goal.eq_simplify-requires
eq_simplify-requires c =
    let s = c.requires in
    let w = ready_wf s in
    let e = c.if-k-l.true in
    let kt = sym c.kind_of-k.ensures ∙ eqb-true _ _ (and_l _ _ e) in
    let ku = sym c.kind_of-l.ensures ∙ eqb-true _ _ (and_r (eqb c.kind_of-k.result 19) _ e) in
    record { arena = s.arena; fit = rw (c.arg_of.ensures, c.arg_of-then-k-l.ensures) (some_alike w c.args.t.0 c.args.u.0 kt ku s.fit) }

pub returns-then-k-l : goal.returns-then-k-l
unfolding eq_t
returns-then-k-l c =
    builds_as c.eq_simplify.ensures (rw (← c.kind_of-k.ensures, ← c.kind_of-l.ensures, c.if-k-l.true, c.arg_of.ensures, c.arg_of-then-k-l.ensures))

pub returns-then-k-l-2 : goal.returns-then-k-l-2
unfolding eq_t
returns-then-k-l-2 c =
    builds_as (builds_here c.args.arena.now c.requires.arena 4) (rw (← c.kind_of-k.ensures, ← c.kind_of-l.ensures, c.if-k-l.false, c.if-k-l-2.true))

pub returns : goal.returns
unfolding eq_t
returns c =
    builds_as c.eq_simplify-2.ensures (rw (← c.kind_of-k.ensures, ← c.kind_of-l.ensures, c.if-k-l.false, c.if-k-l-2.false))
