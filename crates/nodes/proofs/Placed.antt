-- A node found or added in an arena, by the answer that the search gave.
use mathlib.Core.Path.{◌≡◌, refl, sym, ap}
use Prim.Native.Nat.{ℕ, ◌+◌, ◌≤◌, ◌<◌}
use native.Mathlib.Nat.{le_refl}
use native.Mathlib.Omega.{arith}
use mathlib.Core.Option.{Option, none, some}
use mathlib.Core.List.{List, ◌++◌}
use lib.ListN.{length, take, drop}
use Rattle.std.specs.Prelude.{Some, None}
use Rattle.arena.specs.Nodes.{Node, find, put, size}
use Rattle.arena.specs.Cells.{cells_of}
use Rattle.arena.specs.Did.{Done, built, found_or}
use Rattle.arena.proofs.Formed.{mark_is}
use Rattle.arena.proofs.Put.{find_sound}
use Rattle.arena.proofs.Steps.{did_found, did_full, did_added}
use Rattle.nodes.specs.declared.Arena.{Arena}
use Rattle.nodes.specs.Builds.{nodes_of, Formed, spot, Builds}

pub spot-some : (f : Option ℕ) (p : ℕ) → spot f ≡ Some p → f ≡ some p
spot-some none p e = absurd cc
spot-some (some q) p e = cc

pub spot-none : (f : Option ℕ) → spot f ≡ None → f ≡ none
spot-none none e = refl
spot-none (some q) e = absurd cc

module _ (o : Arena) (A : Formed o) (n : Node) where
  pub place_found : {p : ℕ} → spot (find (nodes_of o) n) ≡ Some p → Builds (λ a. put a n) o (Some p) o
  place_found {p} e =
      let f = spot-some (find (nodes_of o) n) p e in
      let s = (find_sound (nodes_of o) n p f).0 in let m = mark_is A.below in
      record { same = refl; did = did_found A n p (sym (ap (found_or o.mark) f)) (omega arith); stopped = λ e. absurd cc }

  module _ (e : spot (find (nodes_of o) n) ≡ None) where
    at : o.mark ≡ found_or o.mark (find (nodes_of o) n)
    at = sym (ap (found_or o.mark) (spot-none (find (nodes_of o) n) e))

    pub place_full : length o.cells.now < o.mark + size n → Builds (λ a. put a n) o None o
    place_full l = record { same = refl; did = did_full A n o.mark at (le_refl o.mark) l; stopped = λ e. (A, le_refl o.mark) }

    pub place_added : {c : List ℕ} → o.mark + size n ≤ length o.cells.now → c ≡ take o.mark o.cells.now ++ (cells_of n ++ drop (o.mark + size n) o.cells.now)
        → Done (put (nodes_of o) n) o.cells.now o.mark (built (o.mark + size n) o.mark) c
    place_added l w = did_added A n o.mark at (le_refl o.mark) l w
