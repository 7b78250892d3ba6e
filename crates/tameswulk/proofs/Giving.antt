-- What is told of an answer, and what a call gives by it. Assumes nothing.
use mathlib.Core.Path.{◌≡◌, refl, sym, ap, ◌∙◌, subst}
use Prim.Native.Nat.{ℕ}
use native.Mathlib.Omega.{arith}
use mathlib.Core.Bool.{Bool, true, false}
use mathlib.Core.List.{List}
use lib.ListN.{length}
use lib.Dec.{leb}
use borrow.Author.Tests.{leb-true, leb-false}
use Rattle.arena.specs.WellFormed.{formed}
use Rattle.instruction.specs.Instruction.{Instr}
use Rattle.table.specs.Call.{Reply, refused, Lent}
use Rattle.table.proofs.Entry.{not_formed}
use Rattle.script.specs.Script.{lent}
use Rattle.script.specs.Running.{room}
use Rattle.script.proofs.Going.{ran-one}
use Rattle.tameswulk.specs.Library.{Tells, Gives, Lends, Scripted}

-- ---- a call

module _ (c : List ℕ) (m : ℕ) (i : Instr) {xs : List ℕ} {r : ℕ} {xs' : List ℕ} where
  pub gives_unformed : formed c m ≡ false → Tells xs m (refused 1) r xs' → Gives c m i xs r c xs'
  gives_unformed f t =
      let z = not_formed c m i f in
      (subst (λ (v : Reply). Tells xs m v r xs') (sym (ap (λ (l : Lent). l.reply) z)) t, sym (ap (λ (l : Lent). l.cells) z))

-- what the promise allows is one
pub gives_one : (c : List ℕ) (m : ℕ) (i : Instr) {xs : List ℕ} {r s : ℕ} {c' d xs' ys : List ℕ} → Gives c m i xs r c' xs' → Gives c m i xs s d ys → (r ≡ s) × (c' ≡ d) × (xs' ≡ ys)
gives_one c m i x y = (x.0.number ∙ sym y.0.number, x.1 ∙ sym y.1, x.0.beside ∙ sym y.0.beside)

-- ---- a script

-- what the promise allows is one
module _ {bytes c out : List ℕ} {r s : ℕ} {c' d out' back : List ℕ} (x : Scripted bytes c out r c' out') (y : Scripted bytes c out s d back) where
  abbrev One : Type 0
  One = (r ≡ s) × (c' ≡ d) × (out' ≡ back)

  one-other : (Lends c out → ⊥) → One
  one-other n = let a = x.other n in let b = y.other n in (a.0 ∙ sym b.0, a.1 ∙ sym b.1, a.2 ∙ sym b.2)

  pub scripted_one : One
  scripted_one = go (leb (length c) lent) refl (leb lent (length c)) refl (leb room (length out)) refl
    where
      go : (i : Bool) → leb (length c) lent ≡ i → (j : Bool) → leb lent (length c) ≡ j → (k : Bool) → leb room (length out) ≡ k → One
      go true e true f true g =
          let a = leb-true (length c) lent e in
          let b = leb-true lent (length c) f in
          let l : Lends c out = (omega arith, leb-true room (length out) g) in
          ran-one (x.lends l) (y.lends l)
      go true e true f false g = let z = leb-false room (length out) g in one-other (λ h. (let k = h.1 in absurd (omega arith)))
      go true e false f k g = let z = leb-false lent (length c) f in one-other (λ h. (let k = h.0 in absurd (omega arith)))
      go false e j f k g = let z = leb-false (length c) lent e in one-other (λ h. (let k = h.0 in absurd (omega arith)))
