use borrow.Author.Rules.{rules}
use mathlib.Core.Path.{◌≡◌, sym, ap, ◌∙◌, subst⁻¹}
use mathlib.Core.Bool.{false, ◌&&◌}
use Prim.Native.Nat.{ℕ, ◌+◌}
use native.Mathlib.Omega.{arith}
use lib.Dec.{eqb, ltb}
use lib.ListN.{drop}
use Rattle.codec.specs.Numbers.{read}
use Rattle.codec.proofs.Steps.{Begun, begun_more, below_tenth, steps, by_steps, joined, turn_passes, turn_spare, turn_last, turn_more, turn_none}
use Rattle.codec.proofs.read_number.Goals as goal

pub loop-next-init : goal.loop-next-init
loop-next-init c = (
  search rules,
  by_steps c.args.bytes.now c.args.at (λ k. omega (arith, c.type_inv.bytes k)),
)

pub returns-then-passes : goal.returns-then-passes
returns-then-passes c =
    let l = c.loop-next in
    sym (turn_passes l.value l.shift l.next c.from-group.result c.args.bytes.now
    c.loop-next-test.true c.from-group.ensures (sym c.passes.ensures ∙ c.if-passes.true))
    ∙ l.invariant.1

pub returns-then-is_spare : goal.returns-then-is_spare
returns-then-is_spare c =
    let l = c.loop-next in
    sym (turn_spare l.value l.shift l.next c.from-group.result c.args.bytes.now
    c.loop-next-test.true c.from-group.ensures (sym c.passes.ensures ∙ c.if-passes.false)
    c.if-group-lt128.true (sym c.is_spare.ensures ∙ c.if-is_spare.true))
    ∙ l.invariant.1

pub returns-then-group-lt128 : goal.returns-then-group-lt128
returns-then-group-lt128 c =
    let l = c.loop-next in
    let e : (eqb l.shift 63 && ltb 1 c.from-group.result) ≡ false = sym c.passes.ensures ∙ c.if-passes.false in
    ap (λ (x : ℕ). read x (l.next + 1)) (joined l.value l.shift c.from-group.result l.invariant.0 e)
    ∙ sym (turn_last l.value l.shift l.next c.from-group.result c.args.bytes.now
    c.loop-next-test.true c.from-group.ensures e
    c.if-group-lt128.true (sym c.is_spare.ensures ∙ c.if-is_spare.false))
    ∙ l.invariant.1

pub loop-next-preserved : goal.loop-next-preserved
loop-next-preserved c =
    let l = c.loop-next in
    let e : (eqb l.shift 63 && ltb 1 c.from-group.result) ≡ false = sym c.passes.ensures ∙ c.if-passes.false in
    let j = joined l.value l.shift c.from-group.result l.invariant.0 e in (
      subst⁻¹ (λ (x : ℕ). Begun x (l.shift + 7)) j (begun_more l.value l.shift c.from-group.result (below_tenth l.shift c.from-group.result l.invariant.0.most c.if-group-lt128.false e) l.invariant.0),
      ap (λ (x : ℕ). steps x (l.shift + 7) (l.next + 1) (drop (l.next + 1) c.args.bytes.now)) j
          ∙ sym (turn_more l.value l.shift l.next c.from-group.result c.args.bytes.now
          c.loop-next-test.true c.from-group.ensures e c.if-group-lt128.false)
          ∙ l.invariant.1,
    )

pub returns : goal.returns
returns c =
    let l = c.loop-next in
    sym (turn_none l.value l.shift l.next c.args.bytes.now c.loop-next-test.false) ∙ l.invariant.1
