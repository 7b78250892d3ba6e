use mathlib.Core.Path.{sym, ◌∙◌}
use Rattle.codec.proofs.Groups.{length-groups}
use Rattle.codec.proofs.group_count.Goals as goal

pub returns : goal.returns
returns c = c.digit_count.ensures ∙ sym (length-groups c.args.n)
