use Rattle.arena.proofs.View.{is_opt_lem}
use Rattle.arena.proofs.Whole.{good_is}
use Rattle.factory.specs.Makers.{none_of}
use Rattle.factory.proofs.Calls.{ready_wf}
use Rattle.factory_makers.proofs.none_of.Goals as goal

pub typed_node-requires : goal.typed_node-requires
typed_node-requires c =
    record { arena = c.requires.arena; tmembers_value = good_is (ready_wf c.requires) (is_opt_lem c.args.ty.0 c.requires.fit) }

pub returns : goal.returns
unfolding none_of
returns c = c.typed_node.ensures
