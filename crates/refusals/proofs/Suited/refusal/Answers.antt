use Rattle.table.proofs.Order.{at_5, at_6, at_7, at_8, accepted}
use Rattle.refusals.proofs.Suited.refusal.Goals as goal

pub returns-then-wrong_type : goal.returns-then-wrong_type
returns-then-wrong_type c = at_5 _ _ _ _ c.wrong_type.ensures c.if-wrong_type.true

pub returns-then-wrong_width : goal.returns-then-wrong_width
returns-then-wrong_width c = at_6 _ _ _ _ c.wrong_type.ensures c.if-wrong_type.false c.wrong_width.ensures c.if-wrong_width.true

pub returns-then-too_large : goal.returns-then-too_large
returns-then-too_large c =
    at_7 _ _ _ _ c.wrong_type.ensures c.if-wrong_type.false c.wrong_width.ensures c.if-wrong_width.false c.too_large.ensures c.if-too_large.true

pub returns-then-absent_attribute : goal.returns-then-absent_attribute
returns-then-absent_attribute c =
    at_8 _ _ _ _ c.wrong_type.ensures c.if-wrong_type.false c.wrong_width.ensures c.if-wrong_width.false c.too_large.ensures c.if-too_large.false
    c.absent_attribute.ensures c.if-absent_attribute.true

pub returns : goal.returns
returns c =
    accepted _ _ _ _ c.wrong_type.ensures c.if-wrong_type.false c.wrong_width.ensures c.if-wrong_width.false c.too_large.ensures c.if-too_large.false
    c.absent_attribute.ensures c.if-absent_attribute.false
