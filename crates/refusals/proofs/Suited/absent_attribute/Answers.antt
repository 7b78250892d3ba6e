use mathlib.Core.Path.{sym, ap, ◌∙◌}
use Prim.Native.Nat.{ℕ}
use mathlib.Core.List.{List}
use Rattle.arena.specs.Nodes.{mem_at}
use Rattle.arena.specs.View.{nodes_of}
use Rattle.arena.proofs.Runs.{all_get}
use Rattle.arena.proofs.Chain.{term_pos}
use Rattle.arena.specs.Lists.{field}
use Rattle.std.proofs.Common.{is_some, true, false}
use Rattle.std.proofs.Math.Option.{none, some}
use Rattle.refusals.proofs.Absent.{absent_is}
use Rattle.table.proofs.Numbers.{eight_is}
use Rattle.table.proofs.Suits.{field-terms, type_pos}
use Rattle.refusals.proofs.Suited.absent_attribute.Goals as goal

pub bounds-self-0 : goal.bounds-self-0
bounds-self-0 c = (field-terms _ c.if-self.true c.args.self.now.suited).many

pub type_of-ty-requires : goal.type_of-ty-requires
type_of-ty-requires c =
    let t = field-terms _ c.if-self.true c.args.self.now.suited in term_pos _ _ (all_get _ _ t.each 0 t.many)

pub members_of-requires : goal.members_of-requires
members_of-requires c =
    let t = field-terms _ c.if-self.true c.args.self.now.suited in rw c.type_of-ty.ensures (type_pos c.args.self.now.nodes.below _ (all_get _ _ t.each 0 t.many))

pub returns-then-self : goal.returns-then-self
returns-then-self c =
    rw (eight_is (nodes_of c.args.self.now.nodes) c.args.self.now.xs.now c.args.self.now.par c.args.self.now.op c.args.self.now.known, c.if-self.true)
    (absent_is _ _ (sym (ap is_some c.field.ensures) ∙ c.is_none.ensures)
    ∙ ap (λ (l : List ℕ). elim (field l c.args.self.now.par) [ none ↦ true | some t ↦ false ]) (c.members_of.ensures ∙ ap (mem_at (nodes_of c.args.self.now.nodes)) c.type_of-ty.ensures))

pub returns : goal.returns
returns c =
    rw (eight_is (nodes_of c.args.self.now.nodes) c.args.self.now.xs.now c.args.self.now.par c.args.self.now.op c.args.self.now.known, c.if-self.false)
