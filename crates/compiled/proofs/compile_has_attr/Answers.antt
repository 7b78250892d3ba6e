use mathlib.Core.Path.{sym, ap, ◌∙◌}
use mathlib.Core.Bool.{true, false}
use Rattle.compiler.proofs.Optional.{has-absent, has-option, has-plain}
use Rattle.factory.proofs.Calls.{ready_wf}
use Rattle.factory.proofs.Made.{bool-at_tm}
use Rattle.arena.specs.Nodes.{type_at, kind_at}
use Rattle.arena.proofs.Chain.{type-kind}
use Rattle.arena.proofs.Whole.{field-type}
use Rattle.nodes.specs.Builds.{nodes_of}
use Rattle.nodes.proofs.Steps.{builds_as}
use Rattle.runs.proofs.Given.{given_none}
use Rattle.compiled.proofs.Fields.{found-there}
use Rattle.compiled.proofs.compile_has_attr.Goals as goal

pub kind_of-requires : goal.kind_of-requires
kind_of-requires c =
    let s = c.requires in
    let h = found-there _ c.args.k _ (sym c.field_type.ensures ∙ c.in-Some.is) in
    record { below = s.arena.below; bound = rw (← h.1) (type-kind _ _ (field-type (ready_wf s) (type_at _ c.args.t.0) c.args.k _ s.fit.0.sort h.0)).0 }

pub has_optional-requires : goal.has_optional-requires
has_optional-requires c =
    let h = found-there _ c.args.k _ (sym c.field_type.ensures ∙ c.in-Some.is) in
    record { arena = c.requires.arena; fit = record { has = record { rec = c.requires.fit.0; small = c.requires.fit.1; there = h.0 }; option = ap (kind_at (nodes_of c.args.arena.now)) h.1 ∙ sym c.kind_of.ensures ∙ c.if-kind_of-eq3.true } }

pub returns-then-kind_of-eq3 : goal.returns-then-kind_of-eq3
returns-then-kind_of-eq3 c =
    let h = found-there _ c.args.k _ (sym c.field_type.ensures ∙ c.in-Some.is) in
    builds_as c.has_optional.ensures (has-option (nodes_of c.args.arena.now) c.args.k c.args.t.0 h.0 (ap (kind_at (nodes_of c.args.arena.now)) h.1 ∙ sym c.kind_of.ensures ∙ c.if-kind_of-eq3.true))

pub some_of-requires : goal.some_of-requires
some_of-requires c = record { arena = c.requires.arena; fit = (bool-at_tm (ready_wf c.requires) false).isterm }

pub returns-in_default : goal.returns-in_default
returns-in_default c = builds_as c.some_of.ensures (has-absent (nodes_of c.args.arena.now) c.args.k c.args.t.0 (given_none _ (sym c.field_type.ensures ∙ c.in_default.is)))

pub some_of-requires-2 : goal.some_of-requires-2
some_of-requires-2 c = record { arena = c.requires.arena; fit = (bool-at_tm (ready_wf c.requires) true).isterm }

pub returns : goal.returns
returns c =
    let h = found-there _ c.args.k _ (sym c.field_type.ensures ∙ c.in-Some.is) in
    builds_as c.some_of-2.ensures (has-plain (nodes_of c.args.arena.now) c.args.k c.args.t.0 h.0 (λ e. c.if-kind_of-eq3.false (c.kind_of.ensures ∙ sym (ap (kind_at (nodes_of c.args.arena.now)) h.1) ∙ e)))
