use mathlib.Core.Bool.{true}
use mathlib.Core.Path.{◌≡◌}
use Rattle.compiler.specs.Compiler.{compiled_is_empty}
use Rattle.factory.specs.Makers.{some_of}
use Rattle.factory.proofs.Calls.{ready_wf, ready_next}
use Rattle.factory.proofs.Law.{set_typed}
use Rattle.factory.proofs.Made.{some_law}
use Rattle.factory.proofs.SetLaws.{is_empty_law}
use Rattle.arena.specs.WellFormed.{is_term}
use Rattle.nodes.proofs.Steps.{builds_then, term_stop}
use Rattle.compiled.proofs.compile_is_empty.Goals as goal

pub some_of-requires : goal.some_of-requires
some_of-requires c =
    let s = c.requires in
    let w = ready_wf s in
    let l = is_empty_law w c.args.t.0 (set_typed w c.args.t.0 s.fit.isterm s.fit.sort) in
    ready_next (λ a n. is_term a n ≡ true) c.args.arena.now _ c.in_ok-e.ensures s.arena l.wf
    l.typed.isterm

pub returns : goal.returns
unfolding compiled_is_empty
returns c = builds_then c.args.arena.now _ c.in_ok-e.ensures (some_of) c.some_of.ensures

pub returns-in_err-e : goal.returns-in_err-e
unfolding compiled_is_empty
returns-in_err-e c =
    let s = c.requires in
    let w = ready_wf s in
    let l = is_empty_law w c.args.t.0 (set_typed w c.args.t.0 s.fit.isterm s.fit.sort) in
    term_stop c.args.arena.now _ c.from_residual.result c.from_residual.ensures.0 c.in_err-e.ensures (some_law l.wf _ l.typed).ext
