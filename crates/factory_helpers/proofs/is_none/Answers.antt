use mathlib.Core.Path.{sym, ◌∙◌}
use borrow.Author.Tests.{eq-eqb, ne_eqb}
use Rattle.arena.proofs.Known.{ite_node}
use Rattle.nodes.proofs.Steps.{builds_here, builds_as}
use Rattle.factory.specs.Helpers.{is_none}
use Rattle.factory.proofs.Law.{tm_bool}
use Rattle.factory.proofs.Calls.{ready_wf}
use Rattle.factory_helpers.proofs.is_none.Goals as goal

pub returns-then-k-eq18 : goal.returns-then-k-eq18
unfolding is_none
returns-then-k-eq18 c =
    builds_as (builds_here c.args.arena.now c.requires.arena 8) (rw (eq-eqb _ _ (sym c.kind_of-k.ensures ∙ c.if-k-eq18.true)))

pub returns-then-k-eq19 : goal.returns-then-k-eq19
unfolding is_none
returns-then-k-eq19 c =
    builds_as (builds_here c.args.arena.now c.requires.arena 4) (rw (ne_eqb _ _ (λ e. c.if-k-eq18.false (c.kind_of-k.ensures ∙ e)), eq-eqb _ _ (sym c.kind_of-k.ensures ∙ c.if-k-eq19.true)))

pub is_none_ite-requires : goal.is_none_ite-requires
is_none_ite-requires c =
    let s = c.requires in
    let w = ready_wf s in
    let n = ite_node w c.args.t.0 (sym c.kind_of-k.ensures ∙ c.if-k-eq125.true) in
    record {
      arena = s.arena;
      fit = rw (c.arg_of.ensures, c.arg_of-then-k-eq125.ensures, c.arg_of-then-k-eq125-2.ensures) (s.fit, tm_bool w n.guard, n.left.isterm, n.right.isterm);
    }

pub returns-then-k-eq125 : goal.returns-then-k-eq125
unfolding is_none
returns-then-k-eq125 c =
    builds_as c.is_none_ite.ensures (rw (ne_eqb _ _ (λ e. c.if-k-eq18.false (c.kind_of-k.ensures ∙ e)), ne_eqb _ _ (λ e. c.if-k-eq19.false (c.kind_of-k.ensures ∙ e)), eq-eqb _ _ (sym c.kind_of-k.ensures ∙ c.if-k-eq125.true), c.arg_of.ensures, c.arg_of-then-k-eq125.ensures, c.arg_of-then-k-eq125-2.ensures))

pub returns : goal.returns
unfolding is_none
returns c =
    builds_as c.eq_none.ensures (rw (ne_eqb _ _ (λ e. c.if-k-eq18.false (c.kind_of-k.ensures ∙ e)), ne_eqb _ _ (λ e. c.if-k-eq19.false (c.kind_of-k.ensures ∙ e)), ne_eqb _ _ (λ e. c.if-k-eq125.false (c.kind_of-k.ensures ∙ e))))
