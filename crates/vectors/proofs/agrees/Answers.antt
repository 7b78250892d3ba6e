-- It says true only after every test, of which the last is of the answer.
use borrow.Author.Tests.{eqb-true, eq-eqb, ne_eqb}
use mathlib.Core.Path.{sym, ◌∙◌}
use native.Mathlib.Omega.{arith}
use Rattle.vectors.specs.Answers.{answer_of}
use Rattle.vectors.proofs.agrees.Goals as goal
use Rattle.vectors.proofs.agrees.Goals.{then-fits, else-fits}

pub returns-then-c-eq49 : goal.returns-then-c-eq49
unfolding answer_of
returns-then-c-eq49 c h =
    let e = c.in-Ok.ensures in
    let r = c.extends.ensures h in
    rw (← e)
    record {
      least = omega arith;
      most = omega arith;
      width = c.in-Ok.width.is_width;
      first = c.fits.ensures c.if-not-fits.false;
      second = ((λ _. r.0), (λ other. absurd (other c.if-c-eq49.true)));
      answer = rw (eq-eqb _ 49 c.if-c-eq49.true) r.1;
    }

pub returns-then-is_known : goal.returns-then-is_known
unfolding answer_of
returns-then-is_known c h =
    let e = c.in-Ok.ensures in
    elim c.if-fits.branch [
      | then-fits w ↦
          let range = w.is_known.ensures (sym w.value-is ∙ c.if-is_known.true) in
          rw (← e)
          record {
            least = range.0;
            most = omega arith;
            width = c.in-Ok.width.is_width;
            first = c.fits.ensures c.if-not-fits.false;
            second = ((λ is_49. absurd (c.if-c-eq49.false is_49)), (λ _. c.fits-2.ensures w.if-fits.true));
            answer = rw (ne_eqb _ 49 c.if-c-eq49.false) (sym (eqb-true _ _ h) ∙ c.answer.ensures);
          }
      | else-fits w ↦ cc
    ]
