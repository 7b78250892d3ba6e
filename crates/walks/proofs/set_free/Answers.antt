use mathlib.Core.Path.{sym, ◌∙◌}
use native.Mathlib.Omega.{arith}
use Rattle.arena.proofs.Formed.{wf}
use Rattle.arena.proofs.Visit.{known_none, type-stands, set_here, set_simple, set_walked}
use Rattle.walks.proofs.set_free.Goals as goal

pub kind_of-kind-requires : goal.kind_of-kind-requires
kind_of-kind-requires c = type-stands (wf c.args.nodes.now.below).chain c.args.at c.requires

pub returns-then-kind-eq4 : goal.returns-then-kind-eq4
returns-then-kind-eq4 c = set_here (wf c.args.nodes.now.below).chain c.args.at c.requires (sym c.kind_of-kind.ensures ∙ c.if-kind-eq4.true)

pub returns-then-kind-le2 : goal.returns-then-kind-le2
returns-then-kind-le2 c =
    let k = c.kind_of-kind.ensures in set_simple (wf c.args.nodes.now.below).chain c.args.at c.requires (omega arith)

pub walk-requires-clause-known : goal.walk-requires-clause-known
walk-requires-clause-known c = known_none c.args.nodes.now.below

pub returns : goal.returns
returns c = set_walked (wf c.args.nodes.now.below).chain c.args.at c.requires _ c.walk.ensures
