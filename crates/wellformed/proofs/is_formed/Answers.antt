use Rattle.std.proofs.Common.{rules}
use Rattle.arena.specs.Lists.{every}
use Rattle.node_tests.proofs.Steps.{bad_length, bad_mark, not_zeros, not_fresh, first}
use Rattle.wellformed.proofs.is_formed.Goals as goal

pub returns-then-not-contains : goal.returns-then-not-contains
unfolding every
returns-then-not-contains c = bad_length c.args.cells.now c.args.mark (search rules)

pub returns-then-not-contains-2 : goal.returns-then-not-contains-2
unfolding every
returns-then-not-contains-2 c = bad_mark c.args.cells.now c.args.mark (search rules)

pub returns-then-not-zeros_from : goal.returns-then-not-zeros_from
returns-then-not-zeros_from c = not_zeros c.args.cells.now c.args.mark _ c.zeros_from.ensures c.if-not-zeros_from.true

pub returns-then-not-starts_fresh : goal.returns-then-not-starts_fresh
returns-then-not-starts_fresh c = not_fresh c.args.cells.now c.args.mark _ c.starts_fresh.ensures c.if-not-starts_fresh.true

pub nodes_follow-requires : goal.nodes_follow-requires
unfolding every
nodes_follow-requires c =
    first c.args.cells.now c.args.mark _ _ (search rules) (search rules)
    c.zeros_from.ensures c.if-not-zeros_from.false c.starts_fresh.ensures c.if-not-starts_fresh.false
