use mathlib.Core.Path.{refl, ◌∙◌}
use native.Mathlib.Omega.{arith}
use Rattle.arena.specs.Nodes.{node_at}
use Rattle.arena.specs.View.{nodes_of}
use Rattle.arena.proofs.Read.{node-fits, count-odds, at-odds, at_all}
use Rattle.walks.proofs.arg_at.Goals as goal

pub overflow_mul-i : goal.overflow_mul-i
overflow_mul-i c =
    let n = count-odds (node_at (nodes_of c.args.nodes.now) c.args.at) c.kind_of.ensures refl c.has_fields.ensures c.if-has_fields.true in
    omega (arith, c.requires.i_in_bounds, node-fits c.args.nodes.now.below c.args.at c.requires.stands, c.args.nodes.now.below.short)

pub overflow_add-i : goal.overflow_add-i
overflow_add-i c =
    let n = count-odds (node_at (nodes_of c.args.nodes.now) c.args.at) c.kind_of.ensures refl c.has_fields.ensures c.if-has_fields.true in
    omega (arith, c.requires.i_in_bounds, node-fits c.args.nodes.now.below c.args.at c.requires.stands, c.args.nodes.now.below.short)

pub returns-then-has_fields : goal.returns-then-has_fields
returns-then-has_fields c =
    c.arg_of.ensures ∙ at-odds (node_at (nodes_of c.args.nodes.now) c.args.at) c.kind_of.ensures refl c.has_fields.ensures c.if-has_fields.true c.args.i c.requires.i_in_bounds

pub returns : goal.returns
returns c =
    c.arg_of-2.ensures ∙ at_all (node_at (nodes_of c.args.nodes.now) c.args.at) c.kind_of.ensures refl c.has_fields.ensures c.if-has_fields.false c.args.i
