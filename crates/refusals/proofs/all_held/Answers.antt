use Rattle.std.proofs.Common.{sym, ◌∙◌, arith}
use Rattle.arena.specs.View.{nodes_of}
use Rattle.table.specs.Call.{sort_ok}
use Rattle.table.specs.Forms.{sort}
use Rattle.refusals.proofs.Held.{held_pass, held_fail, held_all}
use Rattle.refusals.proofs.Sorts.{sorted_as, sort_pos}
use Rattle.refusals.proofs.all_held.Goals as goal

pub returns-then-not-fits_sort : goal.returns-then-not-fits_sort
returns-then-not-fits_sort c =
    let i = c.loop-pair.invariant in let s = c.in-Some.ensures.steps.1 in
    let e = sorted_as (nodes_of c.args.nodes.now) c.args.typed _ _ _ c.kind_from.ensures c.fits_sort.ensures in
    sym (i.left ∙ held_fail (sort_ok (nodes_of c.args.nodes.now) (sort c.args.typed)) _ _ _ s.0 (s.1 ∙ i.pairs) (e ∙ c.if-not-fits_sort.true))

pub loop-pair-preserved : goal.loop-pair-preserved
loop-pair-preserved c =
    let i = c.loop-pair.invariant in let s = c.in-Some.ensures.steps in
    let e = sorted_as (nodes_of c.args.nodes.now) c.args.typed _ _ _ c.kind_from.ensures c.fits_sort.ensures in
    record {
      can = omega (arith, s.0, i.pairs);
      ends = tt;
      pairs = s.0 ∙ i.pairs;
      left = i.left ∙ held_pass (sort_ok (nodes_of c.args.nodes.now) (sort c.args.typed)) _ _ _ s.1.0 (s.1.1 ∙ i.pairs) (e ∙ c.if-not-fits_sort.false);
      foot = (let p = sort_pos c.args.typed c.kind_from.result (sym c.fits_sort.ensures ∙ c.if-not-fits_sort.false) in let k = c.kind_from.ensures in omega arith);
    }

pub returns : goal.returns
returns c =
    let i = c.loop-pair.invariant in
    sym (i.left ∙ held_all (sort_ok (nodes_of c.args.nodes.now) (sort c.args.typed)) _ (omega (arith, c.in-None.ensures.steps.1.0, i.pairs)))
