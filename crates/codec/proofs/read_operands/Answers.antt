use mathlib.Core.Path.{sym, ◌∙◌}
use Prim.Native.Nat.{◌+◌, ◌-◌}
use native.Mathlib.Omega.{arith}
use native.Mathlib.Nat.{sub-zero}
use Rattle.codec.proofs.Filling.{filled-zeros, filled_more, filled-bad, filled-all}
use Rattle.codec.proofs.read_operands.Goals as goal

pub loop-read-init : goal.loop-read-init
loop-read-init c =
    let s = c.args in
    rw sub-zero (filled-zeros s.at s.count s.bytes.now c.requires)

pub returns-in_err-number : goal.returns-in_err-number
returns-in_err-number c =
    let l = c.loop-read in
    let s = c.args in
    c.from_residual.ensures
    ∙ sym (filled-bad (s.count - l.read) l.next s.bytes.now l.values l.read (s.count - (l.read + 1)) (omega arith)
    (sym c.in_err-number.was ∙ c.read_number.ensures))
    ∙ l.invariant

pub loop-read-preserved : goal.loop-read-preserved
loop-read-preserved c =
    let l = c.loop-read in
    let s = c.args in
    sym (filled_more (s.count - l.read) l.next s.bytes.now l.values l.read (s.count - (l.read + 1)) c.in_ok-number.number.value c.in_ok-number.number.next (omega arith)
    (sym c.in_ok-number.was ∙ c.read_number.ensures))
    ∙ l.invariant

pub returns : goal.returns
returns c =
    let l = c.loop-read in
    let s = c.args in
    sym (filled-all (s.count - l.read) l.next s.bytes.now l.values l.read (omega arith)) ∙ l.invariant
