use mathlib.Core.Path.{ap, ◌∙◌}
use mathlib.Core.List.{List}
use Prim.Native.Nat.{ℕ}
use lib.ListN.{set}
use Rattle.arena.proofs.FreshCells.{fresh_low, fresh_high, fresh_made, answer_low, answer_high, answer_made}
use Rattle.arena.proofs.cells.fresh.Goals as goal

pub returns-then-cells-lt12 : goal.returns-then-cells-lt12
returns-then-cells-lt12 c = record { answer = answer_low _ c.if-cells-lt12.true; left = (fresh_low _ c.if-cells-lt12.true).left }

pub returns-then-cells-gt65536 : goal.returns-then-cells-gt65536
returns-then-cells-gt65536 c = record { answer = answer_high _ c.if-cells-lt12.false c.if-cells-gt65536.true; left = (fresh_high _ c.if-cells-lt12.false c.if-cells-gt65536.true).left }

pub returns : goal.returns
returns c =
    let made = fresh_made c.args.cells.now c.if-cells-lt12.false c.if-cells-gt65536.false in
    record { answer = answer_made _ c.if-cells-lt12.false c.if-cells-gt65536.false; left = ap (λ (l : List ℕ). set (set (set (set l 0 1) 4 16) 8 16) 10 1) c.clear_back.ensures ∙ made.left }
