use mathlib.Core.Path.{◌≡◌, refl, sym, ap, ◌∙◌}
use mathlib.Core.List.{List, ◌++◌, append_assoc}
use Prim.Native.Nat.{ℕ, ◌+◌, ◌-◌}
use native.Mathlib.Omega.{arith}
use lib.ListN.{length, take, drop}
use lib.Seq.{drop-drop}
use Rattle.codec.specs.Writing.{put}
use Rattle.answers.proofs.write_bytes.Goals as goal

pub returns : goal.returns
unfolding put
returns c =
    let s = c.args in
    let b = s.bytes.now in
    let front = take s.at s.out.now in
    let room : s.at + length b - s.at ≡ length b = omega arith in
    record {
      behind = refl;
      bytewise = rw (room, c.copy_from_slice.ensures.after) (ap (λ (l : List ℕ). front ++ (b ++ l)) (drop-drop (length b) s.at s.out.now) ∙ sym (append_assoc front b (drop (s.at + length b) s.out.now)));
    }
