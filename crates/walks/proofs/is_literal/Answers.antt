use native.Mathlib.Omega.{arith}
use Rattle.arena.proofs.Formed.{wf}
use Rattle.arena.proofs.Visit.{known_none, lit_simple, lit_app, lit_walked}
use Rattle.walks.proofs.is_literal.Goals as goal

pub returns-then-kind-le18 : goal.returns-then-kind-le18
returns-then-kind-le18 c =
    let k = c.kind_of-kind.ensures in lit_simple (wf c.args.nodes.now.below).chain c.args.at c.requires (let h = c.if-kind-le18.true in omega arith)

pub returns-then-kind-gt21 : goal.returns-then-kind-gt21
returns-then-kind-gt21 c =
    let k = c.kind_of-kind.ensures in lit_app (wf c.args.nodes.now.below).chain c.args.at c.requires (omega arith)

pub walk-requires-clause-known : goal.walk-requires-clause-known
walk-requires-clause-known c = known_none c.args.nodes.now.below

pub returns : goal.returns
returns c = lit_walked (wf c.args.nodes.now.below).chain c.args.at c.requires _ c.walk.ensures
