use mathlib.Core.Path.{sym, ◌∙◌}
use Rattle.arena.specs.View.{nodes_of}
use Rattle.arena.proofs.Loops.{any_hit, any_miss, any_end}
use Rattle.arena.proofs.Runs.{all_get}
use Rattle.table.specs.Forms.{misfit}
use Rattle.refusals.proofs.any_misfits.Goals as goal

pub misfits-requires : goal.misfits-requires
misfits-requires c = all_get _ _ c.requires c.loop-x.x-index c.loop-x-test.true

pub returns-then-misfits : goal.returns-then-misfits
returns-then-misfits c =
    sym (c.loop-x.invariant ∙ any_hit (misfit (nodes_of c.args.nodes.now) c.args.named) _ c.loop-x.x-index c.loop-x-test.true (sym c.misfits.ensures ∙ c.if-misfits.true))

pub loop-x-preserved : goal.loop-x-preserved
loop-x-preserved c =
    c.loop-x.invariant ∙ any_miss (misfit (nodes_of c.args.nodes.now) c.args.named) _ c.loop-x.x-index c.loop-x-test.true (sym c.misfits.ensures ∙ c.if-misfits.false)

pub returns : goal.returns
returns c = sym (c.loop-x.invariant ∙ any_end (misfit (nodes_of c.args.nodes.now) c.args.named) _ c.loop-x.x-index c.loop-x-test.false)
