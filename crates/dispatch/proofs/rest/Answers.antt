use Prim.Native.Nat.{◌-◌}
use lib.ListN.{length, drop, length-drop}
use lib.Seq.{take_all}
use native.Mathlib.Omega.{arith}
use Rattle.table.proofs.Dispatch.{rest_none}
use Rattle.dispatch.proofs.rest.Goals as goal

pub returns-then-xs-eq0 : goal.returns-then-xs-eq0
returns-then-xs-eq0 c = rest_none c.args.xs.now c.if-xs-eq0.true

pub returns : goal.returns
returns c = take_all (length c.args.xs.now - 1) (drop 1 c.args.xs.now) (let l = length-drop 1 c.args.xs.now in omega arith)
