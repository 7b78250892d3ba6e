use mathlib.Core.Path.{sym, ◌∙◌}
use native.Mathlib.Omega.{arith}
use Rattle.arena.proofs.Loops.{list_hit, list_miss, list_end, list_differ, list_length}
use Rattle.arena.proofs.same_run.Goals as goal

pub returns-then-n-other : goal.returns-then-n-other
returns-then-n-other c = sym (list_length _ _ c.if-n-other.true)

pub returns-then-run-n : goal.returns-then-run-n
returns-then-run-n c = sym (list_differ _ _ _ (omega arith) (omega arith) c.if-run-n.true)

pub returns-then-run-i : goal.returns-then-run-i
returns-then-run-i c =
    let l = c.loop-i in
    sym (l.invariant ∙ list_miss _ _ l.i (omega arith) (omega arith) c.if-run-i.true)

pub loop-i-preserved : goal.loop-i-preserved
loop-i-preserved c =
    let l = c.loop-i in
    l.invariant ∙ list_hit _ _ l.i (omega arith) (omega arith) c.if-run-i.false

pub returns : goal.returns
returns c =
    let l = c.loop-i in
    sym (l.invariant ∙ list_end _ _ l.i (omega arith) (omega arith))
