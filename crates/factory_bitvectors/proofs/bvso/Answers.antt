use mathlib.Core.Path.{sym, ◌∙◌}
use Rattle.nodes.proofs.Steps.{builds_here, builds_as}
use Rattle.factory.specs.Bitvectors.{bvso_t}
use Rattle.factory.proofs.Calls.{ready_wf}
use Rattle.factory.proofs.Operands.{two_bv, literals_some, literals_none}
use Rattle.factory_bitvectors.proofs.bvso.Goals as goal

pub bvso-requires : goal.bvso-requires
bvso-requires c =
    let h = literals_some _ _ _ _ _ (sym c.literals.ensures ∙ c.in-Some.is) in
    let p = two_bv (ready_wf c.requires.ready) c.args.t.0 c.args.u.0 c.requires.ready.fit.1 h.0 in
    rw (c.width_of-width.ensures, ← h.1, ← h.2) (record { left = p.0; right = p.1 })

pub returns-in-Some : goal.returns-in-Some
unfolding bvso_t
returns-in-Some c =
    let h = literals_some _ _ _ _ _ (sym c.literals.ensures ∙ c.in-Some.is) in
    builds_as (builds_here c.args.arena.now c.requires.ready.arena c.bool_at.result.0) (rw (h.0, h.1, h.2, c.bool_at.ensures, c.bvso.ensures, c.width_of-width.ensures))

pub returns : goal.returns
unfolding bvso_t
returns c = builds_as c.app2.ensures (rw (literals_none _ _ _ (sym c.literals.ensures ∙ c.in_default.is)))
