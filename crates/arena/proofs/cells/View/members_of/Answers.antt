use mathlib.Core.Path.{◌≡◌, ap, ◌∙◌}
use Prim.Native.Nat.{ℕ, ◌+◌, ◌-◌}
use native.Mathlib.Omega.{arith}
use lib.ListN.{take, drop, get_or}
use Rattle.arena.specs.Nodes.{header}
use Rattle.arena.proofs.Read.{after-fits, read_members}
use Rattle.arena.proofs.cells.View.members_of.Goals as goal

pub overflow_add-from : goal.overflow_add-from
overflow_add-from c = let f = after-fits c.args.self.now.below c.args.p c.requires in omega arith

pub overflow_add-end : goal.overflow_add-end
overflow_add-end c = let f = after-fits c.args.self.now.below c.args.p c.requires in omega arith

pub offset_bounds-self-p : goal.offset_bounds-self-p
offset_bounds-self-p c = let f = after-fits c.args.self.now.below c.args.p c.requires in omega arith

pub bounds-self-p : goal.bounds-self-p
bounds-self-p c = let f = after-fits c.args.self.now.below c.args.p c.requires in omega arith

pub overflow_add-end-2 : goal.overflow_add-end-2
overflow_add-end-2 c = let f = after-fits c.args.self.now.below c.args.p c.requires in omega arith

pub offset_bounds-self-from : goal.offset_bounds-self-from
offset_bounds-self-from c = let f = after-fits c.args.self.now.below c.args.p c.requires in omega arith

pub slice_bounds-result-end : goal.slice_bounds-result-end
slice_bounds-result-end c = let f = after-fits c.args.self.now.below c.args.p c.requires in omega arith

pub returns : goal.returns
returns c =
    let a = c.args in
    let n = get_or a.self.now.cells.now (a.p + 3) 0 in
    let e : a.p + header + n - (a.p + header) ≡ n = omega arith in
    ap (λ (k : ℕ). take k (drop (a.p + header) a.self.now.cells.now)) e ∙ read_members c.args.self.now.below a.p c.requires
