use Prim.Native.Nat.{◌+◌, ◌≤◌}
use Rattle.factory.specs.Bitvectors.{extended_to, zero_extend_t}
use Rattle.factory.specs.Fit.{OfKind}
use Rattle.factory.proofs.Calls.{ready_wf, ready_next}
use Rattle.factory.proofs.Operands.{wider_type, bv_keep, extended_ext}
use Rattle.arena.specs.Nodes.{width_at}
use Rattle.nodes.proofs.Steps.{builds_then, term_stop, builds_as}
use Rattle.factory_bitvectors.proofs.zero_extend.Goals as goal

pub extended-requires : goal.extended-requires
extended-requires c =
    let s = c.requires in
    let w = ready_wf s in
    let p = wider_type w c.args.n c.width_of-width.ensures s.fit.0 s.fit.1 in
    ready_next (λ a ty. OfKind a 2 c.args.t.0 × width_at a c.args.t.0 + c.args.n ≤ 64) c.args.arena.now _ c.in_ok-ty.ensures s.arena p.wf
    (bv_keep w c.args.n c.args.t.0 p.ext p.wf s.fit.0 s.fit.1)

pub returns : goal.returns
unfolding zero_extend_t
returns c = builds_as (builds_then c.args.arena.now _ c.in_ok-ty.ensures (λ b ty. extended_to b c.args.n c.args.t.0 ty) c.extended.ensures) (rw c.width_of-width.ensures)

pub returns-in_err-ty : goal.returns-in_err-ty
unfolding zero_extend_t
returns-in_err-ty c = term_stop c.args.arena.now _ c.from_residual.result c.from_residual.ensures.0 c.in_err-ty.ensures (rw c.width_of-width.ensures (extended_ext _ c.args.n c.args.t.0 _))
