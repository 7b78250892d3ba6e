use Prim.Native.Nat.{◌+◌, ◌*◌, ◌<◌}
use lib.ListN.{length, get_or, take, set, length-set}
use mathlib.Core.Path.{◌≡◌, ◌∙◌}
use native.Mathlib.Omega.{arith}
use Rattle.nodes.specs.Builds.{nodes_of}
use Rattle.factory.proofs.Calls.{term_pos}
use Rattle.factory.proofs.Picks.{odd_term, pair_back, types_next, types_last, types_held}
use Rattle.factory_makers.proofs.field_types.Goals as goal

pub type_of-requires-clause-bound : goal.type_of-requires-clause-bound
type_of-requires-clause-bound c = term_pos _ _ (odd_term _ c.args.run.now (2 * c.loop-i.i) (2 * (c.loop-i.i + 1)) (omega arith) (omega arith) c.loop-i.invariant.1).0

pub loop-i-preserved : goal.loop-i-preserved
loop-i-preserved c =
    let l = c.loop-i in
    let r = c.args.run.now in
    let j = 2 * l.i in
    let k : j + 1 < length l.types = let p = c.requires.run_in_bounds in let e = l.invariant.0 in omega arith in (
      length-set (set l.types j (get_or r j 0)) (j + 1) c.type_of.result.0 ∙ length-set l.types j (get_or r j 0) ∙ l.invariant.0,
      (odd_term (nodes_of c.args.arena.now) r j (2 * (l.i + 1)) (omega arith) (omega arith) l.invariant.1).1,
      l.invariant.2 ∙ types_next (nodes_of c.args.arena.now) r l.types j (2 * (l.i + 1)) _ (omega arith) (omega arith) k c.type_of.ensures,
      pair_back l.types j (get_or r j 0) c.type_of.result.0 (length r) (omega arith) ∙ l.invariant.3,
    )

pub returns : goal.returns
returns c =
    let l = c.loop-i in
    let e : 2 * l.i ≡ length c.args.run.now = let p = c.requires.run_len in omega arith in
    types_held c.args.run.now e l.invariant.0 c.requires.run_in_bounds (l.invariant.2 ∙ types_last (nodes_of c.args.arena.now) c.args.run.now (take (2 * l.i) l.types) (2 * l.i) (omega arith)) l.invariant.3
