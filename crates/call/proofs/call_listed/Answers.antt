use borrow.Author.Rules.{rules}
use mathlib.Core.Path.{◌≡◌, sym, ap, ◌∙◌}
use Rattle.std.specs.Prelude.{Err}
use Rattle.table.specs.Answers.{reply_of}
use Rattle.table.specs.Forms.{instr}
use Rattle.table.proofs.Entry.{by_refused, counted}
use Rattle.arena.specs.Cells.{used}
use Rattle.call.proofs.call_listed.Goals as goal

pub returns-in_err-refusal : goal.returns-in_err-refusal
returns-in_err-refusal c =
    let e : c.from_residual.result ≡ Err c.in_err-refusal.field-0.0 = search rules in
    let z = by_refused c.args.cells.now c.args.mark (instr c.args.op c.args.par c.args.count c.args.xs.now) c.requires.arena c.in_err-refusal.field-0.0 c.in_err-refusal.ensures in
    (ap reply_of e ∙ z.0, z.1)

pub built-requires-clause-passes : goal.built-requires-clause-passes
built-requires-clause-passes c =
    (counted (used c.args.cells.now c.args.mark) c.args.op c.args.par c.args.count c.args.xs.now c.requires.held (sym c.in_ok-refusal.ensures)).1

pub returns : goal.returns
returns c =
    rw (sym (counted (used c.args.cells.now c.args.mark) c.args.op c.args.par c.args.count c.args.xs.now c.requires.held (sym c.in_ok-refusal.ensures)).0) c.built.ensures
