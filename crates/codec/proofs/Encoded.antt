-- What is accepted is an encoding, and every encoding is accepted. Assumes nothing.
use mathlib.Core.Path.{◌≡◌, refl, sym, ap, ap₂, ◌∙◌}
use mathlib.Core.Logic.{◌↔◌}
use mathlib.Core.Bool.{Bool, true, false, cond}
use mathlib.Core.List.{List, ◌++◌}
use Prim.Native.Nat.{ℕ, ◌+◌, ◌^◌, ◌<◌}
use native.Mathlib.Omega.{arith}
use borrow.Author.Tests.{ltb-true, lt-ltb}
use lib.Dec.{ltb}
use lib.ListN.{length, drop}
use lib.Seq.{drop-drop, drop-append_seam, drop-append-add}
use Rattle.codec.specs.declared.Number.{Number}
use Rattle.std.proofs.Common.{Option, Some, None}
use Rattle.std.proofs.lemmas.Option.{same_Some}
use Rattle.codec.specs.Numbers.{groups, value, run, same, read, number_of, number_at, Begins}
use Rattle.codec.proofs.Groups.{value-groups, run-groups, same_eq, eq_same, run-front}

-- both tests hold where a number comes out
chosen : (t u : Bool) {v k n next : ℕ} → cond t (cond u (read v k) None) None ≡ read n next → (t ≡ true) × (u ≡ true) × (v ≡ n) × (k ≡ next)
chosen true true e = let d = same_Some _ _ e in (refl, refl, ap (λ (m : Number). m.value) d, ap (λ (m : Number). m.next) d)
chosen true false e = (refl, cc, cc, cc)
chosen false u e = (cc, cc, cc, cc)

module _ (bytes : List ℕ) (at : ℕ) where
  begins_read : (n next : ℕ) → Begins bytes at n next → number_at bytes at ≡ read n next
  unfolding number_at number_of
  begins_read n next b =
      let e : run (drop at bytes) ≡ groups n = ap run b.stands ∙ run-groups (drop next bytes) n in
      rw (e, value-groups n, eq_same (groups n), lt-ltb n (2 ^ 64) b.small, sym b.behind)

  read_begins : (n next : ℕ) → number_at bytes at ≡ read n next → Begins bytes at n next
  unfolding number_at number_of
  read_begins n next e =
      let r : List ℕ = run (drop at bytes) in
      let h = chosen (same r (groups (value r))) (ltb (value r) (2 ^ 64)) e in
      let g : r ≡ groups n = same_eq r (groups (value r)) h.0 ∙ ap groups h.2 in
      let k : next ≡ at + length r = sym h.3 in
      record {
        small = rw h.2 at (ltb-true (value r) (2 ^ 64) h.1);
        stands = run-front (drop at bytes) ∙ ap₂ ◌++◌ g (drop-drop (length r) at bytes ∙ ap (λ (x : ℕ). drop x bytes) h.3);
        behind = k ∙ ap (λ (l : List ℕ). at + length l) g;
      }

  -- a number is read exactly where its encoding stands
  pub number_read : (n next : ℕ) → (number_at bytes at ≡ read n next) ↔ Begins bytes at n next
  number_read n next = (read_begins n next, begins_read n next)

  -- and a bad one exactly where none does
  pub number-bad : (number_at bytes at ≡ None) ↔ ((n next : ℕ) → Begins bytes at n next → ⊥)
  number-bad = (
    (λ e n next b. let z : ◌≡◌ {A = ℕ} 0 1 = cc (begins_read n next b) in omega arith),
    λ h. none (number_at bytes at) refl h,
  )
    where
      none : (r : Option Number) → number_at bytes at ≡ r → ((n next : ℕ) → Begins bytes at n next → ⊥) → number_at bytes at ≡ None
      none (Some n) e h = absurd (h n.value n.next (read_begins n.value n.next e))
      none None e h = e

-- what stands behind a front
pub behind-front : (front xs rest : List ℕ) → drop (length front) (front ++ (xs ++ rest)) ≡ xs ++ drop (length front + length xs) (front ++ (xs ++ rest))
behind-front front xs rest =
    drop-append_seam front (xs ++ rest)
    ∙ ap (◌++◌ xs) (sym (drop-append-add front (xs ++ rest) (length xs) ∙ drop-append_seam xs rest))

-- decoding an encoded number gives it back, and the place behind it
pub number-back : (front rest : List ℕ) (n : ℕ) → n < 2 ^ 64 → number_at (front ++ (groups n ++ rest)) (length front) ≡ read n (length front + length (groups n))
number-back front rest n h =
    begins_read (front ++ (groups n ++ rest)) (length front) n (length front + length (groups n))
    (record { small = h; stands = behind-front front (groups n) rest; behind = refl })
