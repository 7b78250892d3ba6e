use native.Mathlib.Omega.{arith}
use Rattle.script.proofs.Going.{stepped_on, going_room, going_end}
use Rattle.script.proofs.walk.Goals as goal

pub step-place-requires : goal.step-place-requires
step-place-requires c = let p = c.requires in let g = c.loop-place.invariant in (g.stands.arena, going_room g p.short p.roomy c.loop-place-test.true)

pub loop-place-smaller : goal.loop-place-smaller
loop-place-smaller c = let l = c.loop-place-test.true in omega (arith, stepped_on c.step-place.ensures l)

pub returns : goal.returns
returns c = let e = going_end c.loop-place.invariant c.loop-place-test.false in record { written = e.0; left = e.1 }
