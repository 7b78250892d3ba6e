use borrow.Author.Rules.{rules}
use lib.ListN.{length}
use lib.Seq.{length-take-le}
use mathlib.Core.Path.{◌≡◌, sym, ◌∙◌}
use native.Mathlib.Omega.{arith}
use Rattle.table.proofs.Entry.{min_low, held-take}
use borrow.Author.Rules.{rules}
use Rattle.call.proofs.call_known.Goals as goal

pub slice_bounds-operands-end : goal.slice_bounds-operands-end
slice_bounds-operands-end c = let e : length c.args.instruction.operands ≡ 257 = search rules in let h = c.held-n.ensures in omega arith

pub slice_bounds-call_listed-end : goal.slice_bounds-call_listed-end
slice_bounds-call_listed-end c = let e : length c.args.instruction.operands ≡ 257 = search rules in let h = c.held-n.ensures in sym (length-take-le c.held-n.result c.args.instruction.operands (omega arith))

pub call_listed-requires : goal.call_listed-requires
call_listed-requires c = let e : length c.args.instruction.operands ≡ 257 = search rules in let h = c.held-n.ensures in record { arena = c.requires; held = (λ k. length-take-le c.held-n.result c.args.instruction.operands (omega arith) ∙ (h ∙ min_low k)) }

pub returns : goal.returns
returns c = let e : length c.args.instruction.operands ≡ 257 = search rules in let h = c.held-n.ensures in rw (held-take c.args.instruction.operands c.args.instruction.count c.held-n.result e h) c.call_listed.ensures
