use Rattle.std.proofs.Common.{ℕ, Result, Ok, Err, OnErr, refl}
use Rattle.arena.specs.WellFormed.{IsArena}
use Rattle.cells.proofs.Left.{left-arena}
use Rattle.cells.proofs.step.Goals as goal

on_err : {T E P : Type 0} (r : Result T E) → P → OnErr r P
on_err (Ok x) p = tt
on_err (Err e) p = p

pub returns-in_err-say_answer-2-clause-err : goal.returns-in_err-say_answer-2-clause-err
returns-in_err-say_answer-2-clause-err g c =
    let named = c.resolved-instruction in let made = c.call_known in
    on_err {P = (x : ℕ) × IsArena made.new.cells x} _ (_, left-arena named.result made.result c.requires named.ensures made.ensures refl refl)

pub returns-clause-ok : goal.returns-clause-ok
returns-clause-ok g c =
    let named = c.resolved-instruction in let made = c.call_known in
    left-arena named.result made.result c.requires named.ensures made.ensures c.numbered-answer.ensures c.next_mark.ensures
