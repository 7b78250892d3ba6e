use Rattle.std.proofs.Common.{rules, tests, ap, ◌∙◌}
use Rattle.std.specs.Slice.Iter.{iter_rest}
use Rattle.std.proofs.iter.runs.Made.{seen}
use Rattle.arena.specs.Lists.{mem?}
use Rattle.runs.proofs.Gives.{gives_slice, all_gives}
use Rattle.factory_data.proofs.lists.contains_all.Goals as goal

pub returns : goal.returns
returns c =
    let r = c.all.ensures.runs in
    all_gives r.0 (λ x. x.now) (gives_slice r.0 _ (c.iter.ensures.runs r.0 (seen _)) (ap iter_rest r.1 ∙ c.iter.ensures.rest)) (λ x. mem? x c.args.list.now) _ _ (λ x b q k. search (rules, tests)) _ r.2
