use mathlib.Core.Bool.{true}
use mathlib.Core.Path.{◌≡◌}
use Rattle.compiler.specs.Compiler.{has_some}
use Rattle.factory.specs.Makers.{some_of}
use Rattle.factory.proofs.Calls.{ready_wf, ready_next}
use Rattle.factory.proofs.Made.{some_law}
use Rattle.factory.proofs.Operands.{opt_of}
use Rattle.factory.proofs.Options.{is_some_law}
use Rattle.arena.specs.WellFormed.{is_term}
use Rattle.nodes.proofs.Steps.{builds_then, term_stop}
use Rattle.compiled.proofs.has_some.Goals as goal

pub some_of-requires : goal.some_of-requires
some_of-requires c =
    let s = c.requires in
    let w = ready_wf s in
    let l = is_some_law w c.args.p.0 (opt_of w c.args.p.0 s.fit) in
    ready_next (λ a n. is_term a n ≡ true) c.args.arena.now _ c.in_ok-s.ensures s.arena l.wf
    l.typed.isterm

pub returns : goal.returns
unfolding has_some
returns c = builds_then c.args.arena.now _ c.in_ok-s.ensures (some_of) c.some_of.ensures

pub returns-in_err-s : goal.returns-in_err-s
unfolding has_some
returns-in_err-s c =
    let s = c.requires in
    let w = ready_wf s in
    let l = is_some_law w c.args.p.0 (opt_of w c.args.p.0 s.fit) in
    term_stop c.args.arena.now _ c.from_residual.result c.from_residual.ensures.0 c.in_err-s.ensures (some_law l.wf _ l.typed).ext
