use Rattle.std.proofs.Common.{rules, tests, ltb, ap, ◌∙◌}
use Rattle.std.specs.Slice.Iter.{iter_rest}
use Rattle.std.proofs.iter.runs.Made.{seen}
use Rattle.runs.proofs.Gives.{gives_slice, gives_heads, rises_gives}
use Rattle.runs.proofs.rises.Goals as goal

pub returns : goal.returns
returns c =
    let r = c.is_sorted_by.ensures.runs in
    let s = c.step_by.ensures.runs r.0 (seen _) r.1 in
    let all = gives_slice s.0 _ (c.iter.ensures.runs s.0 (seen _)) (ap iter_rest s.1 ∙ c.iter.ensures.rest) in
    rises_gives r.0 (λ x. x.now) (gives_heads r.0 s.0 _ _ _ c.requires.0 c.requires.1 s.2 all) _ (r.2.0, r.2.1 (λ x y. ltb x.now y.now) (λ x y b q k. search (rules, tests)))
