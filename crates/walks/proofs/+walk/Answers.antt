use mathlib.Core.Path.{sym, ◌∙◌}
use native.Mathlib.Omega.{arith}
use Rattle.arena.proofs.Formed.{wf}
use Rattle.arena.proofs.Visit.{walk_set, walk_app, slot_fits, clean-args, arg_stands, arg_falls, walk_fails, walk_on, walk_ends}
use Rattle.walks.proofs.+walk.Goals as goal

pub returns-then-kind-eq4 : goal.returns-then-kind-eq4
returns-then-kind-eq4 t c =
    walk_set (wf c.args.nodes.now.below).chain c.args.at c.requires.stands c.requires.known (sym c.kind_of-kind.ensures ∙ c.if-kind-eq4.true)

pub returns-then-kind-gt21 : goal.returns-then-kind-gt21
returns-then-kind-gt21 t c =
    walk_app (wf c.args.nodes.now.below).chain c.args.at c.requires.stands c.requires.known (let k = c.kind_of-kind.ensures in omega arith)

pub bounds-flags-slot : goal.bounds-flags-slot
bounds-flags-slot t c = slot_fits (wf c.args.nodes.now.below).chain c.args.at c.requires.stands c.requires.known

pub loop-i-init : goal.loop-i-init
loop-i-init t c =
    let k = c.kind_of-kind.ensures in
    (clean-args (wf c.args.nodes.now.below).chain c.args.at c.requires.stands (λ z. c.if-kind-eq4.false (k ∙ z)) (omega arith), c.requires.known)

pub walk-requires : goal.walk-requires
walk-requires t c =
    let C = (wf c.args.nodes.now.below).chain in
    let e = c.arg_count-n.ensures in
    let i = c.loop-i.i in
    let x = c.arg_at-x in
    let f = arg_falls C c.args.at c.requires.stands i x.result (omega arith) x.ensures in
    (omega arith, (arg_stands C c.args.at c.requires.stands i x.result (omega arith) x.ensures, c.loop-i.invariant.1))

pub returns-then-not-walk : goal.returns-then-not-walk
returns-then-not-walk t c =
    let e = c.arg_count-n.ensures in
    let l = c.loop-i in
    let x = c.arg_at-x in
    walk_fails (wf c.args.nodes.now.below).chain c.args.at c.requires.stands l.i x.result (omega arith) x.ensures l.invariant.0 c.walk.ensures c.if-not-walk.true

pub loop-i-preserved : goal.loop-i-preserved
loop-i-preserved t c =
    let e = c.arg_count-n.ensures in
    let l = c.loop-i in
    let x = c.arg_at-x in
    (walk_on (wf c.args.nodes.now.below).chain c.args.at c.requires.stands l.i x.result (omega arith) x.ensures l.invariant.0 c.walk.ensures c.if-not-walk.false, c.walk.ensures.known)

pub bounds-flags-slot-2 : goal.bounds-flags-slot-2
bounds-flags-slot-2 t c = slot_fits (wf c.args.nodes.now.below).chain c.args.at c.requires.stands c.loop-i.invariant.1

pub returns : goal.returns
returns t c =
    let e = c.arg_count-n.ensures in
    let l = c.loop-i in
    let t = c.loop-i-test.false in
    walk_ends c.args.at l.i c.requires.stands (omega arith) l.invariant.0 l.invariant.1
