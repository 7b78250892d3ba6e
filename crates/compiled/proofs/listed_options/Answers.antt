use Rattle.arena.specs.Runs.{Holds}
use Prim.Native.Nat.{◌/◌, ℕ, ◌+◌, ◌*◌, ◌<◌}
use lib.ListN.{length, get_or, take, length-set}
use mathlib.Core.Path.{subst, ◌≡◌, refl, sym, ◌∙◌}
use native.Mathlib.Omega.{arith}
use Rattle.arena.specs.Lists.{odds}
use Rattle.compiler.proofs.Gather.{odds-next, odds_last}
use Rattle.factory.proofs.Picks.{holds-one}
use Rattle.arena.proofs.Insertion.{holds_none, holds_as, holds_then}
use Rattle.compiled.proofs.listed_options.Goals as goal

pub loop-i-init : goal.loop-i-init
loop-i-init c = (refl, holds_none c.args.held.now, refl)

pub loop-i-preserved : goal.loop-i-preserved
loop-i-preserved c =
    let l = c.loop-i in
    let x = get_or c.args.list.now (2 * l.i + 1) 0 in
    let k : l.i < length l.held = let p = c.requires in let h = l.invariant.0 in omega arith in
    let o = holds-one l.held l.i x k in (
      length-set l.held l.i x ∙ l.invariant.0,
      holds_as (sym o.front) (holds_then l.invariant.1 o (omega arith)),
      l.invariant.2 ∙ odds-next c.args.list.now (take l.i l.held) _ (2 * l.i) (2 * (l.i + 1)) (omega arith) (omega arith) o.front,
    )

pub returns : goal.returns
returns c =
    let l = c.loop-i in
    let e : l.i ≡ length c.args.list.now / 2 = omega arith in
    subst (λ (n : ℕ). Holds (odds c.args.list.now) c.args.held.now n l.held) e
    (holds_as (sym (l.invariant.2 ∙ odds_last c.args.list.now (take l.i l.held) (2 * l.i) (omega arith))) l.invariant.1)
