-- Lines as runs of bytes, one behind the other, and the room that they need. Assumes nothing.
use mathlib.Core.List.{List, ◌++◌}
use Prim.Native.Nat.{ℕ, ◌+◌, ◌^◌, ◌≤◌, ◌<◌}
use native.Mathlib.Omega.{arith}
use lib.ListN.{length, length-append}
use Rattle.codec.specs.Writing.{Puts}
use Rattle.answers.specs.Lines.{decimal, field, ok, refused, space, newline, ok_line, refused_line}
use Rattle.answers.proofs.Turns.{length-decimal, decimal-most}
use Rattle.codec.proofs.Putting.{puts_puts}

pub field_most : (bytes : List ℕ) (n : ℕ) → n < 2 ^ 64 → length (field bytes n) ≤ length bytes + 20
unfolding field
field_most bytes n h = omega (arith, length-append bytes (decimal n), length-decimal n, decimal-most n h)

-- the longest lines
pub refused-most : (n : ℕ) → n < 2 ^ 64 → length (refused_line n) ≤ 29
unfolding refused_line
refused-most n h = omega (arith, length-append (field refused n) newline, field_most refused n h)

pub ok-most : (n m : ℕ) → n < 2 ^ 64 → m < 2 ^ 64 → length (ok_line n m) ≤ 45
unfolding ok_line
ok-most n m hn hm =
    let f = field_most ok n hn in
    let g = field_most space m hm in
    let e = length-append (field ok n) (field space m) in
    omega (arith, length-append (field ok n ++ field space m) newline)

module _ {out : List ℕ} {at end : ℕ} {after : List ℕ} where
  pub puts_field : {bytes : List ℕ} {n mid : ℕ} {between : List ℕ} → n < 2 ^ 64 → at + length bytes + 20 ≤ length out
      → Puts out at bytes mid between → Puts between mid (decimal n) end after → Puts out at (field bytes n) end after
  unfolding field
  puts_field {bytes} {n} h r p q =
      puts_puts (omega (arith, length-append bytes (decimal n), length-decimal n, decimal-most n h)) p q

  pub puts_refused : (n : ℕ) {mid : ℕ} {between : List ℕ} → n < 2 ^ 64 → at + 29 ≤ length out
      → Puts out at (field refused n) mid between → Puts between mid newline end after → Puts out at (refused_line n) end after
  unfolding refused_line
  puts_refused n h r p q = puts_puts (omega (arith, refused-most n h)) p q

  pub puts_ok : (n m : ℕ) {a b : ℕ} {one two : List ℕ} → n < 2 ^ 64 → m < 2 ^ 64 → at + 45 ≤ length out
      → Puts out at (field ok n) a one → Puts one a (field space m) b two → Puts two b newline end after → Puts out at (ok_line n m) end after
  unfolding ok_line
  puts_ok n m hn hm r p q s =
      let f = field_most ok n hn in
      let g = field_most space m hm in
      let e = length-append (field ok n) (field space m) in
      puts_puts (omega (arith, length-append (field ok n ++ field space m) newline)) (puts_puts (omega arith) p q) s
