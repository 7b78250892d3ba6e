use mathlib.Core.Path.{◌≡◌}
use mathlib.Core.Bool.{true}
use Rattle.arena.specs.WellFormed.{is_term}
use Rattle.nodes.proofs.Steps.{builds_then, term_stop}
use Rattle.factory.specs.Makers.{some_of}
use Rattle.factory.specs.Core.{ite_of_somes}
use Rattle.factory.proofs.Made.{some_law}
use Rattle.factory.proofs.Choice.{simplify_law}
use Rattle.factory.proofs.Calls.{ready_wf, ready_next}
use Rattle.factory_core.proofs.ite_of_somes.Goals as goal

pub some_of-requires : goal.some_of-requires
some_of-requires c =
    let s = c.requires in
    let w = ready_wf s in
    let l = simplify_law w c.args.g.0 c.args.x.0 c.args.y.0 s.fit.0 s.fit.1.0 s.fit.1.1 in
    ready_next (λ a n. is_term a n ≡ true) c.args.arena.now _ c.in_ok-s.ensures s.arena l.wf l.typed.isterm

pub returns : goal.returns
unfolding ite_of_somes
returns c =
    builds_then c.args.arena.now _ c.in_ok-s.ensures some_of c.some_of.ensures

pub returns-in_err-s : goal.returns-in_err-s
unfolding ite_of_somes
returns-in_err-s c =
    let s = c.requires in
    let w = ready_wf s in
    let l = simplify_law w c.args.g.0 c.args.x.0 c.args.y.0 s.fit.0 s.fit.1.0 s.fit.1.1 in
    term_stop c.args.arena.now _ c.from_residual.result c.from_residual.ensures.0 c.in_err-s.ensures (some_law l.wf _ l.typed).ext
