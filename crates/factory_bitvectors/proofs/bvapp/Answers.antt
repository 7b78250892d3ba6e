use mathlib.Core.Path.{sym, ◌∙◌}
use Rattle.nodes.proofs.Steps.{builds_as}
use Rattle.factory.specs.Bitvectors.{bvapp_t}
use Rattle.factory.proofs.Calls.{ready_wf}
use Rattle.factory.proofs.Operands.{two_bv, literals_some, literals_none}
use Rattle.factory_bitvectors.proofs.bvapp.Goals as goal

pub bvapp-requires : goal.bvapp-requires
bvapp-requires c =
    let h = literals_some _ _ _ _ _ (sym c.literals.ensures ∙ c.in-Some.is) in
    let p = two_bv (ready_wf c.requires.ready) c.args.t.0 c.args.u.0 c.requires.ready.fit.1 h.0 in
    rw (c.width_of-width.ensures, ← h.1, ← h.2) (record { left = p.0; right = p.1 })

pub returns-in-Some : goal.returns-in-Some
unfolding bvapp_t
returns-in-Some c =
    let h = literals_some _ _ _ _ _ (sym c.literals.ensures ∙ c.in-Some.is) in
    builds_as c.bitvec_lit.ensures (rw (h.0, h.1, h.2, c.bvapp.ensures, c.width_of-width.ensures, c.type_of-ty.ensures))

pub returns : goal.returns
unfolding bvapp_t
returns c = builds_as c.app2.ensures (rw (literals_none _ _ _ (sym c.literals.ensures ∙ c.in_default.is), c.type_of-ty.ensures))
