use mathlib.Core.Path.{sym, ◌∙◌}
use lib.Dec.{eqb}
use borrow.Author.Tests.{eqb-true}
use Rattle.arena.proofs.Bools.{and_l, and_r}
use Rattle.nodes.proofs.Steps.{builds_as}
use Rattle.factory.specs.Core.{ite_t}
use Rattle.factory.proofs.Calls.{ready_wf}
use Rattle.factory.proofs.Operands.{some_alike}
use Rattle.factory_core.proofs.ite.Goals as goal

pub ite_of_somes-requires : goal.ite_of_somes-requires
ite_of_somes-requires c =
    let s = c.requires in
    let w = ready_wf s in
    let e = c.if-k-l.true in
    let kt = sym c.kind_of-k.ensures ∙ eqb-true _ _ (and_l _ _ e) in
    let ku = sym c.kind_of-l.ensures ∙ eqb-true _ _ (and_r (eqb c.kind_of-k.result 19) _ e) in
    record {
      arena = s.arena;
      fit = (s.fit.0, rw (c.arg_of.ensures, c.arg_of-then-k-l.ensures) (some_alike w c.args.t.0 c.args.u.0 kt ku s.fit.1));
    }

pub returns-then-k-l : goal.returns-then-k-l
unfolding ite_t
returns-then-k-l c =
    builds_as c.ite_of_somes.ensures (rw (← c.kind_of-k.ensures, ← c.kind_of-l.ensures, c.if-k-l.true, c.arg_of.ensures, c.arg_of-then-k-l.ensures))

pub returns : goal.returns
unfolding ite_t
returns c =
    builds_as c.ite_simplify.ensures (rw (← c.kind_of-k.ensures, ← c.kind_of-l.ensures, c.if-k-l.false))
