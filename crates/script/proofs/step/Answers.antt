use mathlib.Core.Path.{refl, sym, ◌∙◌}
use Rattle.codec.proofs.Handed.{handed_whole, handed_bad}
use Rattle.script.proofs.Going.{stepped_bad, stepped_whole}
use Rattle.script.proofs.step.Goals as goal

pub returns-in_default : goal.returns-in_default
returns-in_default c = stepped_bad (handed_bad _ _ (sym c.in_default.is ∙ c.read_instruction.ensures)) refl refl refl c.write_refused.ensures

pub returns : goal.returns
returns c = stepped_whole c.call_known.result (handed_whole _ _ c.in-Some.read (sym c.in-Some.is ∙ c.read_instruction.ensures)) c.call_known.ensures c.numbered-answer.ensures c.next_mark.ensures refl c.write_answer.ensures
