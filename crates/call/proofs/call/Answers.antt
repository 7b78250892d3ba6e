use mathlib.Core.Path.{sym, ap, ◌∙◌}
use Rattle.table.specs.Call.{Lent}
use Rattle.table.proofs.Entry.{not_formed}
use Rattle.arena.proofs.Formed.{formed-arena}
use Rattle.instruction.specs.Instruction.{instr_of}
use Rattle.call.proofs.call.Goals as goal

pub call_known-requires : goal.call_known-requires
call_known-requires c = formed-arena _ _ (sym c.is_formed.ensures ∙ c.if-is_formed.true)

pub returns : goal.returns
returns c =
    let z = not_formed c.args.cells.now c.args.mark (instr_of c.args.instruction) (sym c.is_formed.ensures ∙ c.if-is_formed.false) in
    (sym (ap (λ (l : Lent). l.reply) z), sym (ap (λ (l : Lent). l.cells) z))
