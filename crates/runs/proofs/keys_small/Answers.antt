use Rattle.std.proofs.Common.{rules, tests, ap, ◌∙◌, arith}
use Rattle.std.specs.Slice.Iter.{iter_rest}
use Rattle.std.proofs.iter.runs.Made.{seen}
use Rattle.arena.specs.WellFormed.{small}
use Rattle.runs.proofs.Gives.{gives_slice, gives_heads, all_gives}
use Rattle.runs.proofs.keys_small.Goals as goal

pub returns : goal.returns
returns c =
    let r = c.all.ensures.runs in
    let s = c.step_by.ensures.runs r.0 (seen _) r.1 in
    let all = gives_slice s.0 _ (c.iter.ensures.runs s.0 (seen _)) (ap iter_rest s.1 ∙ c.iter.ensures.rest) in
    all_gives r.0 (λ x. x.now) (gives_heads r.0 s.0 _ _ 2 (omega arith) (omega arith) s.2 all) small _ _ (λ x b q k. search (rules, tests)) _ r.2
