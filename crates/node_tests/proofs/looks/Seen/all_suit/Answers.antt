use Rattle.std.proofs.Common.{rules, tests, ap, ◌∙◌}
use Rattle.std.specs.Slice.Iter.{iter_rest}
use Rattle.std.proofs.iter.runs.Made.{seen}
use Rattle.arena.specs.Lists.{all}
use Rattle.runs.proofs.Gives.{gives_slice, gives_skip, gives_heads, heads_held, all_gives}
use Rattle.arena.specs.View.{nodes_of}
use Rattle.node_tests.specs.Decide.{wanted}
use Rattle.node_tests.proofs.looks.Seen.all_suit.Goals as goal

pub returns : goal.returns
returns c =
    let s = c.requires in
    let test = wanted (nodes_of c.args.self.now.nodes) c.args.want in
    let p = c.all.ensures.runs in
    let q = c.step_by.ensures.runs p.0 (seen _) p.1 in
    let r = c.skip.ensures.runs q.0 (seen _) q.1 in
    let whole = gives_slice r.0 _ (c.iter.ensures.runs r.0 (seen _)) (ap iter_rest r.1 ∙ c.iter.ensures.rest) in
    let part = gives_heads p.0 q.0 _ _ _ s.0 s.1 q.2 (gives_skip q.0 r.0 (λ x. x.now) _ _ r.2 whole) in
    all_gives p.0 (λ x. x.now) part test _ _ (λ x b q k. search (rules, tests)) _ p.2 ∙ ap (all test) (heads_held _ _ s.0 s.1)
