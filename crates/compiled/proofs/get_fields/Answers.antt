use Prim.Native.Nat.{◌+◌, ◌*◌, ◌<◌}
use lib.ListN.{length, length-drop}
use mathlib.Core.Path.{◌≡◌, refl, ◌∙◌}
use native.Mathlib.Omega.{arith}
use Rattle.compiler.proofs.Gather.{left-start, left-full, left-two, left_end, left-first, left_write, fields_stop, inner_stop}
use Rattle.factory.proofs.Picks.{types_held}
use Rattle.compiled.proofs.get_fields.Goals as goal

pub loop-i-init : goal.loop-i-init
loop-i-init c = (refl, left-start c.args.list.now c.requires.ready, refl)

pub option_get-requires : goal.option_get-requires
option_get-requires c =
    let l = left-two c.args.list.now (2 * c.loop-i.i) (2 * (c.loop-i.i + 1)) (omega arith) (omega arith) c.loop-i.invariant.1 in
    record { arena = l.ready.arena; fit = (left-first _ _ _ l).isterm }

pub returns-in_err-p : goal.returns-in_err-p
returns-in_err-p c =
    let e = left-full _ _ _ (left-two c.args.list.now (2 * c.loop-i.i) (2 * (c.loop-i.i + 1)) (omega arith) (omega arith) c.loop-i.invariant.1) c.in_err-p.ensures (let z = length-drop (2 * (c.loop-i.i + 1)) c.args.list.now in let p = c.requires.list_len in omega arith) in
    let r = c.from_residual in
    record { did = fields_stop r.result r.ensures.0 e; holds_inner = inner_stop _ _ _ r.result _ r.ensures.0 }

pub loop-i-preserved : goal.loop-i-preserved
loop-i-preserved c =
    let l = c.loop-i in
    let k : 2 * l.i + 1 < length l.inner = let p = c.requires.list_in_bounds in let h = l.invariant.0 in omega arith in
    let z = left_write l.inner (2 * l.i) (2 * (l.i + 1)) _ _ _ (omega arith) k (left-two c.args.list.now (2 * l.i) (2 * (l.i + 1)) (omega arith) (omega arith) l.invariant.1) c.in_ok-p.ensures in
    (z.0 ∙ l.invariant.0, z.1, z.2 (length c.args.list.now) (omega arith) ∙ l.invariant.2)

pub returns : goal.returns
returns c =
    let l = c.loop-i in
    let d = left_end c.args.list.now (2 * l.i) (let p = c.requires.list_len in omega arith) l.invariant.1 in
    let e : 2 * l.i ≡ length c.args.list.now = let p = c.requires.list_len in omega arith in
    record { did = d.0; holds_inner = types_held c.args.list.now e l.invariant.0 c.requires.list_in_bounds d.1 l.invariant.2 }
