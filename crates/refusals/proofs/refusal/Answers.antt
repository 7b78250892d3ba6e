use mathlib.Core.Path.{ap, ◌∙◌}
use mathlib.Core.Bool.{not}
use Rattle.arena.specs.View.{nodes_of}
use Rattle.table.specs.Forms.{instr}
use Rattle.table.proofs.Order.{unknown, known-op, at_2, at_3, at_4, suited, past_4}
use Rattle.refusals.proofs.refusal.Goals as goal

pub returns-then-not-is_known : goal.returns-then-not-is_known
returns-then-not-is_known c = unknown _ _ c.is_known.ensures (ap not c.if-not-is_known.true)

pub returns-then-count_ok-takes_parameter : goal.returns-then-count_ok-takes_parameter
returns-then-count_ok-takes_parameter c = at_2 _ _ c.is_known.ensures (ap not c.if-not-is_known.false) c.form_of-form.ensures c.count_ok.ensures c.takes_parameter.ensures c.if-count_ok-takes_parameter.true

pub returns-then-too_many : goal.returns-then-too_many
returns-then-too_many c =
    at_3 _ _ c.is_known.ensures (ap not c.if-not-is_known.false) c.form_of-form.ensures c.count_ok.ensures c.takes_parameter.ensures c.if-count_ok-takes_parameter.false c.too_many.ensures c.if-too_many.true

pub returns-then-not-operands_ok : goal.returns-then-not-operands_ok
returns-then-not-operands_ok c =
    at_4 _ _ c.is_known.ensures (ap not c.if-not-is_known.false) c.form_of-form.ensures c.count_ok.ensures c.takes_parameter.ensures c.if-count_ok-takes_parameter.false c.too_many.ensures c.if-too_many.false c.operands_ok.ensures (ap not c.if-not-operands_ok.true)

pub returns : goal.returns
returns c = c.refusal.ensures ∙ past_4 _ (instr c.args.op c.args.par c.args.count c.args.operands.now) c.is_known.ensures (ap not c.if-not-is_known.false) c.form_of-form.ensures c.count_ok.ensures c.takes_parameter.ensures c.if-count_ok-takes_parameter.false c.too_many.ensures c.if-too_many.false c.operands_ok.ensures (ap not c.if-not-operands_ok.false)
