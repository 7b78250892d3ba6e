use mathlib.Core.Path.{sym, ap, ◌∙◌}
use Prim.Native.Nat.{ℕ}
use Rattle.arena.specs.Lists.{any}
use Rattle.arena.specs.Nodes.{kind_at}
use Rattle.arena.specs.View.{nodes_of}
use Rattle.arena.proofs.Runs.{all_get}
use Rattle.arena.proofs.Chain.{term_pos}
use Rattle.table.specs.Table.{rest, not_of}
use Rattle.table.proofs.Suits.{rest_cut, terms-rest, rest_differs, type_pos}
use Rattle.table.specs.Forms.{misfit}
use Rattle.table.specs.declared.Named.TheVariants as named
use Rattle.refusals.proofs.not_alike.Goals as goal

pub type_of-ty-requires : goal.type_of-ty-requires
type_of-ty-requires c =
    term_pos _ _ (all_get _ _ c.requires.each 0 c.requires.many)

pub kind_of-requires : goal.kind_of-requires
kind_of-requires c =
    rw c.type_of-ty.ensures (type_pos c.args.nodes.now.below _ (all_get _ _ c.requires.each 0 c.requires.many))

pub any_misfits-requires : goal.any_misfits-requires
any_misfits-requires c =
    rw (rest_cut c.args.xs.now) (terms-rest _ c.requires)

pub returns : goal.returns
returns c =
    c.any_misfits.ensures ∙ ap (any (misfit (nodes_of c.args.nodes.now) (named.Type c.type_of-ty.result.0))) (rest_cut c.args.xs.now) ∙ ap (λ (t : ℕ). any (not_of (nodes_of c.args.nodes.now) t) (rest c.args.xs.now)) c.type_of-ty.ensures
    ∙ rest_differs _ _ c.args.xs.now (sym (c.kind_of.ensures ∙ ap (kind_at (nodes_of c.args.nodes.now)) c.type_of-ty.ensures) ∙ c.if-kind_of-kind.false) c.requires.many
