use mathlib.Core.Path.{refl, sym, ap, ap₂, ◌∙◌}
use mathlib.Core.Bool.{◌&&◌}
use Rattle.arena.specs.Lists.{all}
use Rattle.arena.specs.View.{nodes_of}
use Rattle.arena.specs.WellFormed.{is_term}
use Rattle.table.proofs.Suits.{rest_cut, sorts_few, sorts-terms, sorts-typed}
use Rattle.refusals.proofs.sorts_ok.Goals as goal

pub returns-then-xs-least : goal.returns-then-xs-least
returns-then-xs-least c =
    sorts_few _ c.args.typed c.args.terms _ _ c.least.ensures.value c.if-xs-least.true

pub returns-then-not-typed : goal.returns-then-not-typed
returns-then-not-typed c =
    c.all_terms.ensures ∙ sorts-terms _ c.args.typed c.args.terms _ _ c.least.ensures.value c.if-not-typed.true c.if-xs-least.false

pub returns-then-is_type : goal.returns-then-is_type
returns-then-is_type c =
    ap₂ ◌&&◌ (sym c.if-is_type.true ∙ c.is_type.ensures) (c.all_terms-then-is_type.ensures ∙ ap (all (is_term (nodes_of c.args.nodes.now))) (rest_cut c.args.xs.now))
    ∙ sorts-typed _ c.args.typed c.args.terms _ _ c.least.ensures.value c.if-not-typed.false c.if-xs-least.false

pub returns-else-is_type : goal.returns-else-is_type
returns-else-is_type c = c.if-is_type.false ∙ ap₂ ◌&&◌ (sym c.if-is_type.false ∙ c.is_type.ensures) refl ∙ sorts-typed _ c.args.typed c.args.terms _ _ c.least.ensures.value c.if-not-typed.false c.if-xs-least.false
