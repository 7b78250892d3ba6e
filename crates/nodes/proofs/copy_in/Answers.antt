use mathlib.Core.List.{List}
use mathlib.Core.Path.{◌≡◌, refl, sym, ap, ◌∙◌}
use Prim.Native.Nat.{ℕ, ◌+◌}
use native.Mathlib.Numerals.{add-one}
use native.Mathlib.Omega.{arith}
use lib.ListN.{length, get_or, set, length-set}
use lib.Seq.{paste, paste-zero, paste-suc}
use Rattle.nodes.proofs.copy_in.Goals as goal

pub loop-i-init : goal.loop-i-init
loop-i-init c = (paste-zero c.args.cells.now c.args.from c.args.run.now, refl)

pub loop-i-preserved : goal.loop-i-preserved
loop-i-preserved c =
    let a = c.args in
    let l = c.loop-i in (
      ap (λ (x : List ℕ). set x (a.from + l.i) (get_or a.run.now l.i 0)) l.invariant.0
          ∙ paste-suc a.cells.now a.from a.run.now l.i 0 (omega arith) (omega arith)
          ∙ ap (paste a.cells.now a.from a.run.now) (sym (add-one l.i)),
      simp length-set l.invariant.1,
    )

pub returns : goal.returns
returns c =
    let a = c.args in
    let l = c.loop-i in
    let e : l.i ≡ length a.run.now = omega arith in
    l.invariant.0 ∙ ap (paste a.cells.now a.from a.run.now) e
