use borrow.Author.Rules.{rules}
use mathlib.Core.Path.{sym, ap, ◌∙◌}
use Rattle.table.proofs.Entry.{by_built, by_full}
use Rattle.nodes.specs.Builds.{reply_at, node_reply}
use Rattle.call.proofs.built.Goals as goal

pub returns-in-Ok : goal.returns-in-Ok
returns-in-Ok c =
    let s = sym c.build.ensures.same in
    let z = by_built _ _ _ c.requires.arena c.requires.passes c.build.ensures.did (ap (λ r. reply_at c.build.new.arena.mark (node_reply r)) c.in-Ok.is) in
    (z.0, search (rules, s, z.1))

pub returns-in-Err : goal.returns-in-Err
returns-in-Err c =
    let s = sym c.build.ensures.same in
    let z = by_full _ _ _ c.requires.arena c.requires.passes c.build.ensures.did (ap (λ r. reply_at c.build.new.arena.mark (node_reply r)) c.in-Err.is) in
    let e = c.clear_back.ensures ∙ z.1 in
    (z.0, search (rules, s, e))
