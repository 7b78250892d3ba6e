use Rattle.arena.proofs.View.{is_opt_lem}
use Rattle.arena.proofs.Whole.{good_is}
use Rattle.arena.proofs.Chain.{term_type}
use Rattle.factory.specs.Makers.{some_of}
use Rattle.factory.proofs.Calls.{ready_wf}
use Rattle.nodes.proofs.Steps.{builds_as}
use Rattle.factory_makers.proofs.some_of.Goals as goal

pub typed_node-requires : goal.typed_node-requires
typed_node-requires c =
    record { arena = c.requires.arena; tmembers_value = rw c.type_of.ensures (good_is (ready_wf c.requires) (is_opt_lem _ (term_type (ready_wf c.requires).chain c.args.t.0 c.requires.fit))) }

pub returns : goal.returns
unfolding some_of
returns c =
    builds_as c.typed_node.ensures (rw (← c.type_of.ensures))
