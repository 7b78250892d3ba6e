-- Bytes put over others, one by one and one run behind another. Assumes nothing.
use mathlib.Core.Path.{◌≡◌, sym, ap, ap₂, ◌∙◌}
use mathlib.Core.List.{List, [], ◌∷◌, ◌++◌}
use Prim.Native.Nat.{ℕ, suc, ◌+◌, ◌≤◌}
use native.Mathlib.Nat.{add-zero}
use native.Mathlib.Omega.{arith}
use lib.ListN.{length, take, drop, set, length-append}
use lib.Seq.{sets, sets-eq, length-sets, set_comm, length-take-le, take_at}
use Rattle.codec.specs.Writing.{put, Puts}

pub put_sets : (bytes out : List ℕ) (at : ℕ) → at + length bytes ≤ length out → put out at bytes ≡ sets out at bytes
unfolding put
put_sets bytes out at h = sym (sets-eq bytes out at h)

pub length-put : (bytes out : List ℕ) (at : ℕ) → at + length bytes ≤ length out → length (put out at bytes) ≡ length out
length-put bytes out at h = ap length (put_sets bytes out at h) ∙ length-sets out at bytes

sets_append : (out : List ℕ) (at : ℕ) (xs ys : List ℕ) → sets out at (xs ++ ys) ≡ sets (sets out at xs) (at + length xs) ys
sets_append out at [] ys = rw (add-zero at)
sets_append out at (x ∷ xs) ys =
    let e : suc at + length xs ≡ at + suc (length xs) = omega arith in
    sets_append (set out at x) (suc at) xs ys ∙ ap (λ (k : ℕ). sets (sets (set out at x) (suc at) xs) k ys) e

-- the last byte first
pub sets_last : (out : List ℕ) (at : ℕ) (xs : List ℕ) (x : ℕ) → sets out at (xs ++ (x ∷ [])) ≡ sets (set out (at + length xs) x) at xs
sets_last out at [] x = rw (add-zero at)
sets_last out at (y ∷ ys) x =
    let e : suc at + length ys ≡ at + suc (length ys) = omega arith in
    sets_last (set out at y) (suc at) ys x
    ∙ ap (λ (l : List ℕ). sets l (suc at) ys)
    (set_comm out at (suc at + length ys) y x (omega arith) ∙ ap (λ (k : ℕ). set (set out k x) at y) e)

-- two runs, one behind the other
pub puts_puts : {out : List ℕ} {at : ℕ} {xs : List ℕ} {mid : ℕ} {between ys : List ℕ} {end : ℕ} {after : List ℕ} → at + length (xs ++ ys) ≤ length out → Puts out at xs mid between → Puts between mid ys end after → Puts out at (xs ++ ys) end after
puts_puts {out} {at} {xs} {mid} {between} {ys} {end} {after} h p q =
    let e = length-append xs ys in
    let b : between ≡ sets out at xs = p.bytewise ∙ put_sets xs out at (omega arith) in
    let l : length between ≡ length out = ap length b ∙ length-sets out at xs in
    record {
      behind = omega (arith, p.behind, q.behind);
      bytewise =
          q.bytewise
          ∙ put_sets ys between mid (omega (arith, p.behind))
          ∙ ap₂ (λ (l : List ℕ) (k : ℕ). sets l k ys) b p.behind
          ∙ sym (sets_append out at xs ys)
          ∙ sym (put_sets (xs ++ ys) out at h);
    }

-- the place behind what was put lies within the bytes; from the first place on, what was put stands in front of it
pub puts_inside : {out : List ℕ} {at : ℕ} {bytes : List ℕ} {end : ℕ} {after : List ℕ} → at ≤ length out → Puts out at bytes end after → end ≤ length after
unfolding put
puts_inside {out} {at} {bytes} h p =
    let e = ap length p.bytewise in
    let front = length-take-le at out h in
    omega (arith, p.behind, length-append (take at out ++ bytes) (drop (at + length bytes) out), length-append (take at out) bytes)

pub puts_taken : {out : List ℕ} {at : ℕ} {bytes : List ℕ} {end : ℕ} {after : List ℕ} → at ≤ length out → Puts out at bytes end after → end ≡ length (take end after)
puts_taken h p = sym (length-take-le _ _ (puts_inside h p))

pub puts_front : {out bytes : List ℕ} {end : ℕ} {after : List ℕ} → Puts out 0 bytes end after → take end after ≡ bytes
unfolding put
puts_front {out} {bytes} {end} p =
    let e : length bytes ≡ end = omega (arith, p.behind) in
    rw p.bytewise (take_at bytes (drop (0 + length bytes) out) end e)

-- a loop that has stored every byte
pub sets_puts : {out : List ℕ} {at : ℕ} {bytes : List ℕ} {end : ℕ} {after : List ℕ} → at + length bytes ≤ length out → end ≡ at + length bytes → after ≡ sets out at bytes → Puts out at bytes end after
sets_puts {out} {at} {bytes} h e s = record { behind = e; bytewise = s ∙ sym (put_sets bytes out at h) }
