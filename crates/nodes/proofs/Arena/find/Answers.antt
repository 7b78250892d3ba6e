use mathlib.Core.Path.{refl, sym, ap, ◌∙◌}
use native.Mathlib.Omega.{arith}
use lib.ListN.{length}
use Rattle.arena.specs.Nodes.{Node}
use Rattle.arena.proofs.Same.{same_of}
use Rattle.arena.proofs.Scan.{scan_start, scan_fits, scan_within, scan_hit, scan_miss, scan_end}
use Rattle.arena.proofs.Tiling.{here-count}
use Rattle.nodes.specs.Builds.{spot}
use Rattle.nodes.proofs.Arena.find.Goals as goal

pub loop-at-init : goal.loop-at-init
loop-at-init c = (omega arith, scan_start c.args.self.now.cells.now c.args.self.now.mark _)

pub read-there-requires : goal.read-there-requires
read-there-requires c = scan_within c.requires _ c.loop-at.at c.loop-at.invariant.1 c.loop-at-test.true

pub returns-then-same : goal.returns-then-same
returns-then-same c =
    let e = same_of c.read-there.result c.args.node.now c.read-there.ensures refl (sym c.if-same.true ∙ c.same.ensures) in
    sym (ap spot (scan_hit c.requires _ c.loop-at.at c.loop-at.invariant.1 c.loop-at-test.true e))

pub loop-at-preserved : goal.loop-at-preserved
loop-at-preserved c =
    let s = c.loop-at.invariant.1 in let t = c.loop-at-test.true in
    let w = scan_within c.requires _ c.loop-at.at s t in
    let long = ap (λ (n : Node). length n.mem) c.read-there.ensures ∙ here-count c.args.self.now.cells.now c.loop-at.at w in
    let e = same_of c.read-there.result c.args.node.now c.read-there.ensures refl (sym c.if-same.false ∙ c.same.ensures) in
    rw long (scan_fits c.requires _ c.loop-at.at s t, scan_miss c.requires _ c.loop-at.at s t e)

pub returns : goal.returns
returns c = sym (ap spot (scan_end c.requires _ c.loop-at.at c.loop-at.invariant.1 c.loop-at-test.false))
