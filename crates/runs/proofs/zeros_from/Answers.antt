use Rattle.std.proofs.Common.{eqb, rules, tests, ap, ◌∙◌, arith}
use Rattle.std.proofs.lemmas.Slice.{between_to_end}
use Rattle.std.specs.Slice.Iter.{iter_rest}
use Rattle.std.proofs.iter.runs.Made.{seen}
use Rattle.runs.proofs.Gives.{gives_slice, all_gives}
use Rattle.runs.proofs.zeros_from.Goals as goal

pub returns : goal.returns
returns c =
    let r = c.all.ensures.runs in
    let tail = ap iter_rest r.1 ∙ c.iter.ensures.rest ∙ between_to_end _ c.args.m _ (omega arith) in
    all_gives r.0 (λ x. x.now) (gives_slice r.0 _ (c.iter.ensures.runs r.0 (seen _)) tail) (λ x. eqb x 0) _ _ (λ x b q k. search (rules, tests)) _ r.2
