use mathlib.Core.Path.{sym}
use Rattle.compiled.proofs.Fields.{found-there, there-found}
use lib.Dec.{eqb}
use mathlib.Core.Bool.{true}
use mathlib.Core.Path.{◌≡◌, ◌∙◌}
use Rattle.compiler.specs.Compiler.{fields_at, optioned, compiled_get_attr}
use Rattle.compiler.proofs.Optional.{optioned_ext}
use Rattle.factory.proofs.Calls.{ready_wf, ready_next}
use Rattle.factory.proofs.Records.{record_get_law}
use Rattle.arena.specs.Lists.{field_d}
use Rattle.arena.specs.Nodes.{type_at}
use Rattle.arena.specs.WellFormed.{is_term}
use Rattle.arena.proofs.Chain.{type-kind}
use Rattle.nodes.proofs.Steps.{builds_then, term_stop, builds_as}
use Rattle.arena.proofs.Whole.{field-type}
use Rattle.compiled.proofs.compile_get_attr.Goals as goal

pub unwrap-of-requires : goal.unwrap-of-requires
unwrap-of-requires c = rw c.field_type.ensures (there-found _ _ c.requires.fit.there)

pub kind_of-option-requires : goal.kind_of-option-requires
kind_of-option-requires c =
    let s = c.requires in
    let h = found-there _ c.args.k _ (sym c.field_type.ensures ∙ c.unwrap-of.ensures) in
    record { below = s.arena.below; bound = rw (← h.1) (type-kind _ _ (field-type (ready_wf s) (type_at _ c.args.t.0) c.args.k _ s.fit.rec.sort s.fit.there)).0 }

pub optioned-requires : goal.optioned-requires
optioned-requires c =
    let s = c.requires in
    let w = ready_wf s in
    let l = record_get_law w c.args.k c.args.t.0 (field_d (fields_at _ c.args.t.0) c.args.k) s.fit.small s.fit.rec.isterm s.fit.rec.sort s.fit.there in
    ready_next (λ a n. is_term a n ≡ true) c.args.arena.now _ c.in_ok-p.ensures s.arena l.wf
    l.typed.isterm

pub returns : goal.returns
unfolding compiled_get_attr
returns c =
    let h = found-there _ c.args.k _ (sym c.field_type.ensures ∙ c.unwrap-of.ensures) in
    builds_as (builds_then c.args.arena.now _ c.in_ok-p.ensures (λ b p. optioned (eqb c.kind_of-option.result 3) b p) c.optioned.ensures) (rw (c.kind_of-option.ensures, h.1))

pub returns-in_err-p : goal.returns-in_err-p
unfolding compiled_get_attr
returns-in_err-p c =
    let s = c.requires in
    let w = ready_wf s in
    let l = record_get_law w c.args.k c.args.t.0 (field_d (fields_at _ c.args.t.0) c.args.k) s.fit.small s.fit.rec.isterm s.fit.rec.sort s.fit.there in
    term_stop c.args.arena.now _ c.from_residual.result c.from_residual.ensures.0 c.in_err-p.ensures (optioned_ext l.wf _ _ l.typed)
