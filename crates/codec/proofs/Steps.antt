-- Decoding by steps, a group at a time, is decoding by the encoding. Assumes nothing.
use mathlib.Core.Path.{◌≡◌, refl, sym, ap, ap₂, ◌∙◌, subst}
use mathlib.Core.Logic.{⊎_elim}
use mathlib.Core.Bool.{Bool, true, false, cond, not, ◌&&◌}
use mathlib.Core.List.{List, [], ◌∷◌}
use Prim.Native.Nat.{ℕ, suc, ◌+◌, ◌*◌, ◌%◌, ◌^◌, ◌≤◌, ◌<◌}
use native.Mathlib.Omega.{arith}
use native.Mathlib.Nat.{add-mul, mul_assoc, mul_comm, add_assoc, add_comm, mod-eq_of_lt, eq-zero-or-pos}
use native.Mathlib.Numerals.{add-one}
use borrow.Author.Tests.{ltb-true, ltb-false, lt-ltb, le-ltb, eqb-false, eq-eqb, ne_eqb}
use lib.Arith.{digits_lt}
use lib.Pow.{pow-add, pow_mono}
use lib.Bits.{bit_and, bit_or, and_mask, or_shifted_r}
use lib.Dec.{eqb, ltb}
use lib.ListN.{length, get_or, drop, drop_of_length-le}
use lib.Seq.{get_or-drop, drop-cons}
use Rattle.codec.specs.declared.Number.{Number}
use Rattle.std.proofs.Common.{Option, None}
use Rattle.codec.specs.Numbers.{groups, value, run, same, read, number_of, number_at}
use Rattle.std.proofs.lemmas.Bool.{cases_lt}
use Rattle.std.proofs.Math.Bool.{and-false, and-true}
use Rattle.codec.proofs.Choices.{cond_same}
use Rattle.codec.proofs.Groups.{groups-small, groups_more, eq_same}

-- the groups still to come, where v and s are the value and the bits of those before them, and `next` the place
unfoldable pub steps : ℕ → ℕ → ℕ → List ℕ → Option Number
steps v s next [] = None
steps v s next (g ∷ gs) =
    cond (eqb s 63 && ltb 1 g) None
    (cond (ltb g 128)
    (cond (eqb g 0 && ltb 0 s) None (read (v + g % 128 * 2 ^ s) (next + 1)))
    (steps (v + g % 128 * 2 ^ s) (s + 7) (next + 1) gs))

-- where a turn begins: fewer than ten groups have been read, and they are below 2 ^ s
pub record Begun (v s : ℕ) : Type 0 where
  pub below : v < 2 ^ s
  pub most : s ≤ 63
  pub whole : s % 7 ≡ 0

-- one group more
pub begun_more : (v s g : ℕ) → s < 63 → Begun v s → Begun (v + g % 128 * 2 ^ s) (s + 7)
begun_more v s g l h =
    record {
      below = rw (pow-add 2 s 7) (let d : g % 128 * 2 ^ s + v < 128 * 2 ^ s = digits_lt (omega arith) h.below in omega arith);
      most = omega (arith, h.whole, h.most);
      whole = omega (arith, h.whole);
    }

-- what is made of the whole run at the end, with w its value
ends : ℕ → ℕ → ℕ → ℕ → List ℕ → Option Number
ends v s next w gs =
    cond (same gs (groups w))
    (cond (eqb w 0 && ltb 0 s) None
    (cond (ltb (v + w * 2 ^ s) (2 ^ 64)) (read (v + w * 2 ^ s) (next + length gs)) None))
    None

-- the tenth group has one bit left
tenth_below : (v g : ℕ) → v < 2 ^ 63 → ltb (v + g * 2 ^ 63) (2 ^ 64) ≡ not (ltb 1 g)
tenth_below v g h =
    ⊎_elim
    (λ m. rw (lt-ltb 1 g m) (le-ltb (v + g * 2 ^ 63) (2 ^ 64) (omega (arith, m))))
    (λ m. rw (le-ltb 1 g m) (lt-ltb (v + g * 2 ^ 63) (2 ^ 64) (omega (arith, m))))
    (cases_lt 1 g)

-- a group that is the last passes 2 ^ 64 only as the tenth
last_below : (v s g : ℕ) → g < 128 → Begun v s → ltb (v + g * 2 ^ s) (2 ^ 64) ≡ not (eqb s 63 && ltb 1 g)
last_below v s g l h =
    ⊎_elim
    (λ k.
    let d : g * 2 ^ s + v < 128 * 2 ^ s = digits_lt l h.below in
    let q : s ≤ 56 = omega (arith, h.whole) in
    let p : 2 ^ s ≤ 2 ^ 56 = pow_mono q in
    rw (ne_eqb s 63 (omega arith)) (lt-ltb (v + g * 2 ^ s) (2 ^ 64) (omega arith)))
    (λ k.
    let e : s ≡ 63 = omega (arith, h.most) in
    rw e (tenth_below v g (subst (λ (x : ℕ). v < 2 ^ x) e h.below)))
    (cases_lt s 63)

swap : (a b : Bool) {c : Bool} (r : Option Number) → c ≡ not a → cond a None (cond b None r) ≡ cond b None (cond c r None)
swap true true r e = refl
swap true false r e = rw e
swap false true r e = refl
swap false false r e = rw e

last_ends : (v s next g : ℕ) → g < 128 → Begun v s → cond (eqb s 63 && ltb 1 g) None (cond (eqb g 0 && ltb 0 s) None (read (v + g % 128 * 2 ^ s) (next + 1))) ≡ ends v s next (g % 128 + 128 * 0) (g ∷ [])
unfolding ends
last_ends v s next g l h =
    let e : g % 128 + 128 * 0 ≡ g = omega arith in
    let m : g % 128 ≡ g = omega arith in
    rw (e, m, groups-small g l, eq_same (g ∷ []))
    (swap (eqb s 63 && ltb 1 g) (eqb g 0 && ltb 0 s) (read (v + g * 2 ^ s) (next + 1)) (last_below v s g l h))

-- a run whose value is 0 behind another group is a long form
ends_zero : (v s next w : ℕ) (gs : List ℕ) → w ≡ 0 → 0 < s → ends v s next w gs ≡ None
unfolding ends
ends_zero v s next w gs e h = rw (e, lt-ltb 0 s h) (cond_same (same gs (groups 0)) None)

-- and is no encoding with that group
ends_long : (v s next g w : ℕ) (gs : List ℕ) → w ≡ 0 → 128 ≤ g → ends v s next (g % 128 + 128 * w) (g ∷ gs) ≡ None
unfolding ends same
ends_long v s next g w gs e h =
    let z : g % 128 + 128 * w ≡ g % 128 = omega arith in
    rw (z, groups-small (g % 128) (omega arith), ne_eqb g (g % 128) (omega arith))

ends_over : (v s next w : ℕ) (gs : List ℕ) → 2 ^ 64 ≤ v + w * 2 ^ s → ends v s next w gs ≡ None
unfolding ends
ends_over v s next w gs h =
    rw (le-ltb (v + w * 2 ^ s) (2 ^ 64) h)
    (ap (λ (x : Option Number). cond (same gs (groups w)) x None) (cond_same (eqb w 0 && ltb 0 s) None) ∙ cond_same (same gs (groups w)) None)

-- the group in front of an encoding
groups-front : (g w : ℕ) → 128 ≤ g → g < 256 → 0 < w → groups (g % 128 + 128 * w) ≡ g ∷ groups w
groups-front g w l u h =
    groups_more (g % 128 + 128 * w) (omega arith)
    ∙ ap₂ (λ (x y : ℕ). x ∷ groups y) (omega arith) (omega arith)

spread : (v g w s : ℕ) → v + (g + 128 * w) * 2 ^ s ≡ v + g * 2 ^ s + w * 2 ^ (s + 7)
spread v g w s =
    ap (◌+◌ v) (add-mul g (128 * w) (2 ^ s))
    ∙ sym (add_assoc v (g * 2 ^ s) (128 * w * 2 ^ s))
    ∙ ap (◌+◌ (v + g * 2 ^ s)) (ap (λ (x : ℕ). x * 2 ^ s) (mul_comm 128 w) ∙ mul_assoc w 128 (2 ^ s) ∙ ap (◌*◌ w) (mul_comm 128 (2 ^ s) ∙ sym (pow-add 2 s 7)))

ends_more : (v s next g w : ℕ) (gs : List ℕ) → 128 ≤ g → g < 256 → 0 < w → ends v s next (g % 128 + 128 * w) (g ∷ gs) ≡ ends (v + g % 128 * 2 ^ s) (s + 7) (next + 1) w gs
unfolding ends same
ends_more v s next g w gs l u h =
    let n : next + suc (length gs) ≡ next + 1 + length gs = omega arith in
    rw (groups-front g w l u h, eq-eqb g g refl, ne_eqb (g % 128 + 128 * w) 0 (omega arith), ne_eqb w 0 (omega arith), spread v (g % 128) w s, n)

-- with w the value of the run behind the group
more_ends : (v s next g w : ℕ) (gs : List ℕ) → 128 ≤ g → g < 256 → ends (v + g % 128 * 2 ^ s) (s + 7) (next + 1) w gs ≡ ends v s next (g % 128 + 128 * w) (g ∷ gs)
more_ends v s next g w gs l u =
    ⊎_elim
    (λ e. ends_zero (v + g % 128 * 2 ^ s) (s + 7) (next + 1) w gs e (omega arith) ∙ sym (ends_long v s next g w gs e l))
    (λ h. sym (ends_more v s next g w gs l u h))
    (eq-zero-or-pos w)

-- an eleventh group
eleventh : (v next g w : ℕ) (gs : List ℕ) → 128 ≤ g → ends v 63 next (g % 128 + 128 * w) (g ∷ gs) ≡ None
eleventh v next g w gs l =
    ⊎_elim (λ e. ends_long v 63 next g w gs e l) (λ h. ends_over v 63 next (g % 128 + 128 * w) (g ∷ gs) (omega arith)) (eq-zero-or-pos w)

none_ends : (v s next : ℕ) → ends v s next 0 [] ≡ None
unfolding ends same
none_ends v s next = rw (groups-small 0 (omega arith))

steps_ends : (gs : List ℕ) (v s next : ℕ) → ((k : ℕ) → get_or gs k 0 < 256) → Begun v s → steps v s next gs ≡ ends v s next (value (run gs)) (run gs)
unfolding steps value run
steps_ends [] v s next bytes h = sym (none_ends v s next)
steps_ends (g ∷ gs) v s next bytes h =
    ⊎_elim
    (λ l. rw (lt-ltb g 128 l) (last_ends v s next g l h))
    (λ l.
    ⊎_elim
    (λ m.
    rw (ne_eqb s 63 (omega arith), le-ltb g 128 l)
    (steps_ends gs (v + g % 128 * 2 ^ s) (s + 7) (next + 1) (λ k. bytes (suc k)) (begun_more v s g m h)
    ∙ more_ends v s next g (value (run gs)) (run gs) l (bytes 0)))
    (λ m.
    let e : s ≡ 63 = omega (arith, h.most) in
    rw (e, lt-ltb 1 g (omega arith), le-ltb g 128 l) (sym (eleventh v next g (value (run gs)) (run gs) l)))
    (cases_lt s 63))
    (cases_lt g 128)

-- at the start there is nothing to add to
ends_number : (at w : ℕ) (gs : List ℕ) → ends 0 0 at w gs ≡ cond (same gs (groups w)) (cond (ltb w (2 ^ 64)) (read w (at + length gs)) None) None
unfolding ends
ends_number at w gs =
    let e : 0 + w * 2 ^ 0 ≡ w = omega arith in
    rw (and-false (eqb w 0), e)

-- decoding by steps is decoding by the encoding
pub by_steps : (bytes : List ℕ) (at : ℕ) → ((k : ℕ) → get_or bytes k 0 < 256) → steps 0 0 at (drop at bytes) ≡ number_at bytes at
unfolding number_at number_of
by_steps bytes at h =
    steps_ends (drop at bytes) 0 0 at (λ k. rw get_or-drop (h (at + k))) (record { below = omega arith; most = omega arith; whole = refl })
    ∙ ends_number at (value (run (drop at bytes))) (run (drop at bytes))

-- the code's shift and mask put a group where it belongs
pub joined : (v s g : ℕ) → Begun v s → (eqb s 63 && ltb 1 g) ≡ false → bit_or v (bit_and g 127 * 2 ^ s % 2 ^ 64) ≡ v + g % 128 * 2 ^ s
joined v s g h e =
    let l : ltb (v + g % 128 * 2 ^ s) (2 ^ 64) ≡ true = last_below v s (g % 128) (omega arith) h ∙ ap not (small (eqb s 63) e) in
    let f : g % 128 * 2 ^ s < 2 ^ 64 = omega (arith, ltb-true (v + g % 128 * 2 ^ s) (2 ^ 64) l) in
    ap (λ (x : ℕ). bit_or v (x * 2 ^ s % 2 ^ 64)) (and_mask g 7)
    ∙ ap (bit_or v) (mod-eq_of_lt f)
    ∙ or_shifted_r (g % 128) s v h.below
    ∙ add_comm (g % 128 * 2 ^ s) v
  where
    small : (t : Bool) → t && ltb 1 g ≡ false → t && ltb 1 (g % 128) ≡ false
    small true k = le-ltb 1 (g % 128) (omega (arith, ltb-false 1 g k))
    small false k = refl

-- a turn of the loop, at the group g
module _ (v s next g : ℕ) (bytes : List ℕ) (inside : next < length bytes) (seen : g ≡ get_or bytes next 0) where
  front : drop next bytes ≡ g ∷ drop (next + 1) bytes
  front = drop-cons bytes next 0 inside ∙ ap₂ (λ (x k : ℕ). x ∷ drop k bytes) (sym seen) (sym (add-one next))

  pub turn_passes : (eqb s 63 && ltb 1 g) ≡ true → steps v s next (drop next bytes) ≡ None
  unfolding steps
  turn_passes e = rw (front, e)

  pub turn_spare : (eqb s 63 && ltb 1 g) ≡ false → g < 128 → (eqb g 0 && ltb 0 s) ≡ true → steps v s next (drop next bytes) ≡ None
  unfolding steps
  turn_spare e l z = rw (front, e, lt-ltb g 128 l, z)

  pub turn_last : (eqb s 63 && ltb 1 g) ≡ false → g < 128 → (eqb g 0 && ltb 0 s) ≡ false → steps v s next (drop next bytes) ≡ read (v + g % 128 * 2 ^ s) (next + 1)
  unfolding steps
  turn_last e l z = rw (front, e, lt-ltb g 128 l, z)

  pub turn_more : (eqb s 63 && ltb 1 g) ≡ false → 128 ≤ g → steps v s next (drop next bytes) ≡ steps (v + g % 128 * 2 ^ s) (s + 7) (next + 1) (drop (next + 1) bytes)
  unfolding steps
  turn_more e l = rw (front, e, le-ltb g 128 l)

pub turn_none : (v s next : ℕ) (bytes : List ℕ) → length bytes ≤ next → steps v s next (drop next bytes) ≡ None
unfolding steps
turn_none v s next bytes h = rw (drop_of_length-le bytes h)

-- a group that is not the last is not the tenth
pub below_tenth : (s g : ℕ) → s ≤ 63 → 128 ≤ g → (eqb s 63 && ltb 1 g) ≡ false → s < 63
below_tenth s g h l e =
    ⊎_elim (λ k. k)
    (λ k. absurd (eqb-false s 63 (rw (lt-ltb 1 g (omega arith), and-true (eqb s 63)) at e) (omega arith)))
    (cases_lt s 63)
