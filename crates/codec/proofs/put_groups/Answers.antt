use mathlib.Core.Path.{◌≡◌}
use native.Mathlib.Omega.{arith}
use Prim.Native.Nat.{◌-◌}
use Rattle.codec.proofs.Groups.{groups_some}
use Rattle.codec.proofs.Turns.{groups_left, groups-last, group_more, group_end}
use Rattle.codec.proofs.Putting.{sets_puts}
use Rattle.codec.proofs.put_groups.Goals as goal

pub overflow_sub-last : goal.overflow_sub-last
overflow_sub-last c = omega (arith, c.requires.groups, groups_some c.args.n)

pub loop-next-preserved : goal.loop-next-preserved
loop-next-preserved c =
    let l = c.loop-next in
    group_more l.out _ l.next l.rest _ l.invariant.0 l.invariant.1 (groups_left l.rest (omega arith))

pub overflow_cast-out-2 : goal.overflow_cast-out-2
overflow_cast-out-2 c = let t = groups-last c.loop-next.rest (omega arith) in omega arith

pub bounds-out-last : goal.bounds-out-last
bounds-out-last c = omega (arith, groups_some c.loop-next.rest)

pub returns : goal.returns
returns c =
    let l = c.loop-next in
    let g = groups_some l.rest in
    let t = group_end l.out _ l.next l.rest _ l.invariant.0 l.invariant.1 (groups-last l.rest (omega arith)) in
    let last : c.args.end - 1 ≡ l.next = omega (arith, c.requires.groups) in
    rw last (sets_puts (omega (arith, c.requires.groups, c.requires.room)) c.requires.groups t.1)
