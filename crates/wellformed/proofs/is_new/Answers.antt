use Rattle.std.proofs.Common.{length, sym, ap, ◌∙◌, arith}
use Rattle.arena.specs.Nodes.{Node}
use Rattle.arena.specs.Cells.{used, node_here}
use Rattle.arena.proofs.Formed.{none_absent}
use Rattle.arena.proofs.Scan.{scan_fits, scan_hit, scan_miss, scan_end, find_absent}
use Rattle.arena.proofs.Tiling.{here-count}
use Rattle.arena.proofs.Same.{same_of}
use Rattle.wellformed.proofs.Last.{from_last}
use Rattle.wellformed.proofs.is_new.Goals as goal

pub loop-p-init : goal.loop-p-init
loop-p-init c = from_last c.requires.below c.requires.q_in_bounds c.requires.q_value

pub read-other-requires : goal.read-other-requires
read-other-requires c = omega (arith, scan_fits c.requires.below _ c.loop-p.p c.loop-p.invariant.0 c.loop-p-test.true, c.requires.below.fits)

pub returns-then-same : goal.returns-then-same
returns-then-same c =
    let a = c.args in
    let l = c.loop-p in
    let e = same_of c.read-other.result c.read-node.result c.read-other.ensures c.read-node.ensures (sym c.if-same.true ∙ c.same.ensures) in
    sym (find_absent (used a.cells.now a.q) (node_here a.cells.now a.q) l.p (scan_hit c.requires.below _ l.p l.invariant.0 c.loop-p-test.true e))

pub loop-p-preserved : goal.loop-p-preserved
loop-p-preserved c =
    let l = c.loop-p in
    let f = scan_fits c.requires.below _ l.p l.invariant.0 c.loop-p-test.true in
    let long = ap (λ (n : Node). length n.mem) c.read-other.ensures ∙ here-count c.args.cells.now l.p (omega (arith, f, c.requires.below.fits)) in
    let e = same_of c.read-other.result c.read-node.result c.read-other.ensures c.read-node.ensures (sym c.if-same.false ∙ c.same.ensures) in
    rw long (scan_miss c.requires.below _ l.p l.invariant.0 c.loop-p-test.true e, f)

pub returns : goal.returns
returns c =
    let a = c.args in
    sym (none_absent (used a.cells.now a.q) (node_here a.cells.now a.q) (scan_end c.requires.below _ c.loop-p.p c.loop-p.invariant.0 c.loop-p-test.false))
