-- Fresh cells, and cells cleared back to a mark.
use Rattle.std.specs.Prelude.{Option, Some, None, IsSome, unwrap_or}
use mathlib.Core.Path.{◌≡◌, refl, sym, ap, ap₂, ◌∙◌, subst}
use Prim.Native.Nat.{ℕ, suc, ◌+◌, ◌-◌, ◌≤◌, ◌<◌}
use native.Mathlib.Omega.{arith}
use mathlib.Core.Bool.{Bool, true, false, cond}
use mathlib.Core.List.{List, ◌++◌}
use lib.ListN.{length, take, set, replicate}
use borrow.Author.Tests.{le-leb, lt-leb}
use Rattle.arena.specs.Lists.{every, within}
use Rattle.arena.specs.Nodes.{mark, fresh, Out}
use Rattle.arena.specs.Cells.{cells, padded, used}
use Rattle.arena.specs.WellFormed.{fewest, most, IsArena}
use Rattle.arena.specs.Fresh.{cleared, fresh_mark, fresh_answer, fresh_cells, Freshened}
use Rattle.arena.specs.Did.{Reply, Done}
use Rattle.arena.proofs.Bools.{all-every}
use Rattle.arena.proofs.Ext.{mark-fresh}
use Rattle.arena.proofs.Padded.{padded-used, arena-cleared, fresh-arena}

-- ---- cleared

-- cells that agree with an arena below its mark are that arena's again once they are cleared
pub restored : {c : List ℕ} {m : ℕ} → IsArena c m → (c' : List ℕ) → length c' ≡ length c → take m c' ≡ take m c → cleared c' m ≡ c
restored {c} {m} A c' l k = ap₂ (λ (t : List ℕ) (n : ℕ). t ++ replicate (n - m) 0) k l ∙ arena-cleared A

-- so after steps that had no room, or whose result is thrown away, every cell is as it was
pub did_clear : {o : Out} {c : List ℕ} {m : ℕ} {r : Reply} {c' : List ℕ} → IsArena c m → Done o c m r c' → cleared c' m ≡ c
did_clear {c' = c'} A d = restored A c' d.long d.kept

-- ---- a length that is allowed

within-yes : (n : ℕ) → 12 ≤ n → n ≤ 65536 → within fewest most n ≡ true
within-yes n h k = all-every _ (le-leb 12 n h, (le-leb n 65536 k, tt))

within_low : (n : ℕ) → n < 12 → within fewest most n ≡ false
unfolding every
within_low n h = rw (lt-leb 12 n h)

within_high : (n : ℕ) → 12 ≤ n → 65536 < n → within fewest most n ≡ false
unfolding every
within_high n h k = rw (le-leb 12 n h, lt-leb n 65536 k)

same-cells : (c : List ℕ) → within fewest most (length c) ≡ false → Freshened c 0 c
unfolding fresh_mark fresh_cells
same-cells c e = record { marked = rw (e, fresh_mark); left = rw (e, fresh_cells) }

pub fresh_low : (c : List ℕ) → length c < 12 → Freshened c 0 c
fresh_low c h = same-cells c (within_low (length c) h)

pub fresh_high : (c : List ℕ) → 12 ≤ length c → 65536 < length c → Freshened c 0 c
fresh_high c h k = same-cells c (within_high (length c) h k)

-- four stores into zeros make a fresh arena
stored : (n k : ℕ) → n ≡ 12 + k → set (set (set (set (replicate n 0) 0 1) 4 16) 8 16) 10 1 ≡ cells fresh ++ replicate k 0
unfolding cells
stored n k q =
    let e : n ≡ suc (suc (suc (suc (suc (suc (suc (suc (suc (suc (suc (suc k))))))))))) = omega arith in
    ap (λ (n : ℕ). set (set (set (set (replicate n 0) 0 1) 4 16) 8 16) 10 1) e

pub fresh_made : (c : List ℕ) → 12 ≤ length c → length c ≤ 65536 → Freshened c 12 (set (set (set (set (cleared c 0) 0 1) 4 16) 8 16) 10 1)
unfolding fresh_mark fresh_cells
fresh_made c h k =
    let w = within-yes (length c) h k in
    let e : length c - 0 ≡ 12 + (length c - mark fresh) = let x = mark-fresh in omega arith in
    record {
      marked = sym (rw (w, fresh_mark) mark-fresh);
      left = stored (length c - 0) (length c - mark fresh) e ∙ sym (rw (w, fresh_cells));
    }

-- ---- a fresh arena is well formed

module _ {c : List ℕ} {r : ℕ} {c' : List ℕ} (f : Freshened c r c') (h : fewest ≤ length c) (k : length c ≤ most) where
  made_mark : r ≡ mark fresh
  unfolding fresh_mark
  made_mark = f.marked ∙ rw (within-yes (length c) h k, fresh_mark)

  made_cells : c' ≡ padded (length c) fresh
  unfolding fresh_cells
  made_cells = f.left ∙ rw (within-yes (length c) h k, fresh_cells)

  pub made_used : used c' r ≡ fresh
  made_used = (λ i. used (made_cells i) (made_mark i)) ∙ padded-used (length c) fresh (let x = mark-fresh in omega arith)

  pub made_arena : IsArena c' r
  made_arena =
      subst (λ (n : ℕ). IsArena c' n) (sym (made_mark ∙ mark-fresh))
      (subst (λ (l : List ℕ). IsArena l fewest) (sym made_cells) (fresh-arena (length c) h k))

-- ---- the answer as an Option

pub answer_low : (c : List ℕ) → length c < 12 → None ≡ fresh_answer c
unfolding fresh_answer
answer_low c h = sym (rw (within_low (length c) h) refl)

pub answer_high : (c : List ℕ) → 12 ≤ length c → 65536 < length c → None ≡ fresh_answer c
unfolding fresh_answer
answer_high c h k = sym (rw (within_high (length c) h k) refl)

pub answer_made : (c : List ℕ) → 12 ≤ length c → length c ≤ 65536 → Some 12 ≡ fresh_answer c
unfolding fresh_answer
answer_made c h k = sym (rw (within-yes (length c) h k) (ap Some mark-fresh))

-- what it says as a number, 0 where there is none
pub freshened : {c c' : List ℕ} (o : Option ℕ) → o ≡ fresh_answer c → c' ≡ fresh_cells c → Freshened c (unwrap_or o 0) c'
unfolding fresh_answer fresh_mark
freshened {c} o e f = record { marked = ap (λ q. unwrap_or q 0) e ∙ go (within fewest most (length c)); left = f }
  where
    go : (b : Bool) → unwrap_or (cond b (Some (mark fresh)) None) 0 ≡ cond b (mark fresh) 0
    go true = refl
    go false = refl

-- a length that is allowed has a mark
pub fresh_some : (c : List ℕ) (o : Option ℕ) → o ≡ fresh_answer c → fewest ≤ length c → length c ≤ most → IsSome o
unfolding fresh_answer
fresh_some c o e h k = rw (e, within-yes (length c) h k) refl

pub fresh_at : {c c' : List ℕ} (o : Option ℕ) {m : ℕ} → o ≡ Some m → o ≡ fresh_answer c → c' ≡ fresh_cells c → Freshened c m c'
fresh_at {c} {c'} o e a f = subst (λ (n : ℕ). Freshened c n c') (ap (λ q. unwrap_or q 0) e) (freshened o a f)
