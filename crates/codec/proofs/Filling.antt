-- Operands that are put into an array one by one. Assumes nothing.
use mathlib.Core.Path.{◌≡◌, refl, sym, ap, ◌∙◌}
use mathlib.Core.List.{List, ◌++◌}
use Prim.Native.Nat.{ℕ, zero, suc, ◌+◌, ◌-◌, ◌≤◌}
use native.Mathlib.Nat.{zero-add}
use native.Mathlib.Numerals.{add-one}
use native.Mathlib.Omega.{arith}
use lib.ListN.{length, set, replicate, length-replicate}
use lib.Seq.{sets, sets-eq}
use Rattle.codec.specs.declared.Number.{Number}
use Rattle.std.proofs.lemmas.List.{drop-replicate}
use Rattle.std.proofs.Common.{Option, Some, None}
use Rattle.codec.specs.declared.Operands.{Operands}
use Rattle.codec.specs.Numbers.{read, number_at}
use Rattle.codec.specs.Instructions.{Listing, listed, broken, onto, first, numbers_at, operands_of}

-- the numbers still to come, put into the array behind those that it holds
abbrev pub filled : List ℕ → ℕ → Listing → Option Operands
filled values i (listed ns next) = Some (record { next = next; values = sets values i ns })
filled values i broken = None

-- numbers_at lists as many numbers as were asked for
data Counts (k : ℕ) : Listing → Type 0 where
  counted : {ns : List ℕ} {next : ℕ} → length ns ≡ k → Counts k (listed ns next)
  uncounted : Counts k broken

first_counts : (k : ℕ) (n : Option Number) (rest : ℕ → Listing) → ((next : ℕ) → Counts k (rest next)) → Counts (suc k) (first n rest)
unfolding first onto
first_counts k (Some n) rest h = go (rest n.next) (h n.next)
  where
    go : (l : Listing) → Counts k l → Counts (suc k) (onto n.value l)
    go (listed ns behind) (counted e) = counted (ap suc e)
    go broken uncounted = uncounted
first_counts k None rest h = uncounted

counts : (k : ℕ) (bytes : List ℕ) (at : ℕ) → Counts k (numbers_at k bytes at)
unfolding numbers_at
counts zero bytes at = counted refl
counts (suc k) bytes at = first_counts k (number_at bytes at) (numbers_at k bytes) (counts k bytes)

-- at the start the array holds zeros
pub filled-zeros : (at k : ℕ) (bytes : List ℕ) → k ≤ 257 → filled (replicate 257 0) 0 (numbers_at k bytes at) ≡ operands_of (numbers_at k bytes at)
filled-zeros at k bytes h = go (numbers_at k bytes at) (counts k bytes at)
  where
    go : (l : Listing) → Counts k l → filled (replicate 257 0) 0 l ≡ operands_of l
    go (listed ns next) (counted e) =
        ap (λ (vs : List ℕ). Some (record { next = next; values = vs }))
        (sets-eq ns (replicate 257 0) 0 (omega (arith, e, length-replicate {A = ℕ} 257 0))
        ∙ ap (◌++◌ ns) (drop-replicate (0 + length ns) 257 0 ∙ ap (λ (n : ℕ). replicate (257 - n) 0) (zero-add (length ns))))
    go broken uncounted = refl

-- a turn, with k numbers to read
module _ (k next : ℕ) (bytes values : List ℕ) (i : ℕ) where
  pub filled_more : (j n behind : ℕ) → k ≡ suc j → read n behind ≡ number_at bytes next → filled values i (numbers_at k bytes next) ≡ filled (set values i n) (i + 1) (numbers_at j bytes behind)
  unfolding numbers_at first onto
  filled_more j n behind e h = rw (e, sym h, add-one i) (go (numbers_at j bytes behind))
    where
      go : (l : Listing) → filled values i (onto n l) ≡ filled (set values i n) (suc i) l
      go (listed ns last) = refl
      go broken = refl

  pub filled-bad : (j : ℕ) → k ≡ suc j → None ≡ number_at bytes next → filled values i (numbers_at k bytes next) ≡ None
  unfolding numbers_at first
  filled-bad j e h = rw (e, sym h)

  pub filled-all : k ≡ 0 → filled values i (numbers_at k bytes next) ≡ Some (record { next = next; values = values })
  unfolding numbers_at
  filled-all e = rw e
