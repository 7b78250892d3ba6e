use Rattle.table.specs.Forms.{listed}
use mathlib.Core.Path.{sym, ◌∙◌}
use Rattle.arena.proofs.Formed.{formed-arena}
use Rattle.tameswulk.proofs.Giving.{gives_unformed}
use Rattle.tameswulk.proofs.tameswulk_call.Goals as goal

pub tameswulk_call_known-requires : goal.tameswulk_call_known-requires
tameswulk_call_known-requires c = formed-arena _ _ (sym c.is_formed.ensures ∙ c.if-is_formed.true)

pub returns : goal.returns
returns c = gives_unformed c.args.cells.now c.args.mark (listed c.args.op c.args.par c.args.operands.now) (sym c.is_formed.ensures ∙ c.if-is_formed.false) c.tell.ensures
