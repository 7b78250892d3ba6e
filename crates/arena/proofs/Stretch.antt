-- A stretch of cells, and a node written into them.
use mathlib.Core.Path.{◌≡◌, sym, ap, ◌∙◌}
use Prim.Native.Nat.{ℕ, suc, ◌+◌, ◌≤◌}
use native.Mathlib.Nat.{add_assoc}
use native.Mathlib.Omega.{arith}
use mathlib.Core.List.{List, [], ◌∷◌, ◌++◌, append_assoc}
use lib.ListN.{length, take, drop, set, length-append}
use lib.Seq.{length-take-le, sets-eq, drop-drop, take_at, drop_at, take-length, paste}
use Rattle.arena.specs.Nodes.{node, header}
use Rattle.arena.specs.Cells.{cells_of}

-- ---- a header and its members, written at m

pub stored : (c : List ℕ) (m k t p : ℕ) (ms : List ℕ) → m + (header + length ms) ≤ length c
    → paste (set (set (set (set c m k) (m + 1) t) (m + 2) p) (m + 3) (length ms)) (m + header) ms (length ms)
    ≡ take m c ++ (cells_of (node k t p ms) ++ drop (m + (header + length ms)) c)
stored c m k t p ms h =
    let e1 : m + 1 ≡ suc m = omega arith in
    let e2 : m + 2 ≡ suc (suc m) = omega arith in
    let e3 : m + 3 ≡ suc (suc (suc m)) = omega arith in
    let hd : List ℕ = k ∷ t ∷ p ∷ length ms ∷ [] in
    let d : set (set (set (set c m k) (m + 1) t) (m + 2) p) (m + 3) (length ms) ≡ (take m c ++ hd) ++ drop (m + header) c
    = rw (e1, e2, e3) (sets-eq hd c m (omega arith)) in
    let l : length (take m c ++ hd) ≡ m + header = length-append (take m c) hd ∙ ap (λ (n : ℕ). n + header) (length-take-le m c (omega arith)) in
    let a : take (m + header) ((take m c ++ hd) ++ drop (m + header) c) ≡ take m c ++ hd = take_at (take m c ++ hd) (drop (m + header) c) (m + header) l in
    let b : drop (m + header + length ms) ((take m c ++ hd) ++ drop (m + header) c) ≡ drop (m + (header + length ms)) c
    = sym (drop-drop (length ms) (m + header) ((take m c ++ hd) ++ drop (m + header) c))
    ∙ ap (drop (length ms)) (drop_at (take m c ++ hd) (drop (m + header) c) (m + header) l)
    ∙ drop-drop (length ms) (m + header) c ∙ rw (add_assoc m header (length ms)) in
    rw (d, a, b, take-length ms, append_assoc (take m c) hd ms)
    (append_assoc (take m c) (cells_of (node k t p ms)) (drop (m + (header + length ms)) c))
