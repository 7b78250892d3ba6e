-- What a chain of iterators over a run of numbers gives, place by place, and what its last call then says of the run.
use Rattle.std.proofs.Common.{◌≡◌, ℕ, zero, suc, ◌+◌, ◌*◌, ◌<◌, ◌≤◌, Bool, true, false, ◌&&◌, List, [], ◌∷◌, length, get_or, drop, ltb, length-drop, ◌-◌, slice_index_or, Option, Some, None, refl, sym, ap, ◌∙◌, arith}
use lib.Seq.{get_or-drop}
use Rattle.std.specs.Prelude.{IsSomeAnd, IfSome}
use Rattle.std.specs.Bool.{MatchBool, OnTrue}
use Rattle.std.specs.Option.{option_map}
use Rattle.std.specs.Iterator.Runs.{Run, ItemsMapTo, IsSkipRun, IsStepByRun, AllItemsGive, AnyItemGives}
use Rattle.std.specs.Iterator.Order.{IsSortedAnswer}
use Rattle.std.proofs.lemmas.Option.{same_Some}
use Rattle.std.proofs.Math.Nat.{lt_of_mul-lt-mul_right, mul-le-mul_right, add-mul, one-mul}
use denote.Param.Members.{Mut, Called}
use denote.Ref.{Bor}
use Rattle.arena.specs.Lists.{all, evens, odds, rising}
use Rattle.runs.specs.Strides.{heads, held}

-- a run of calls gives the n numbers num 0, num 1, .., or the first of them
pub record Numbers {S A : Type 0} {steps : S → Option A → S → Type 0} (p : Run steps) (v : A → ℕ) (n : ℕ) (num : ℕ → ℕ) : Type 0 where
  pub some : p.len ≤ n
  pub whole : p.whole ≡ true → p.len ≡ n
  pub item : (k : ℕ) → k < p.len → option_map v (p.at k) ≡ Some (num k)

-- or the numbers ys
pub record Gives {S A : Type 0} {steps : S → Option A → S → Type 0} (p : Run steps) (v : A → ℕ) (ys : List ℕ) : Type 0 where
  pub numbers : Numbers p v (length ys) (λ k. get_or ys k 0)

-- those of a slice
pub gives_slice : {S : Type 0} {steps : S → Option (Bor ℕ) → S → Type 0} (p : Run steps) {xs : List ℕ} (ys : List ℕ) → ItemsMapTo p (λ y. y.now) xs → xs ≡ ys → Gives p (λ y. y.now) ys
gives_slice p ys i e = rw (← e) (record { numbers = record { some = i.0; whole = i.1; item = λ k h. i.2 k 0 h } })

-- each s-th of m, n in all
pub gives_step : {S T A : Type 0} {steps : S → Option A → S → Type 0} {source : T → Option A → T → Type 0} (p : Run steps) (q : Run source) (v : A → ℕ) {m : ℕ} {num : ℕ → ℕ} (n s : ℕ)
    → 1 ≤ s → m ≤ n * s → n * s < m + s → IsStepByRun p q s → Numbers q v m num → Numbers p v n (λ k. num (k * s))
gives_step p q v n s a b c i g =
    record {
      some = omega (arith, below p.len n (omega (arith, i.3, g.some)));
      whole = λ w. omega (arith, below p.len n (omega (arith, i.3, g.some)), below n p.len (omega (arith, i.2, g.whole (i.0 ∙ w))));
      item = λ k h. ap (option_map v) (i.4 k) ∙ g.item (k * s) (omega (arith, i.3, next k h));
    }
  where
    one_more : (b : ℕ) → (b + 1) * s ≡ b * s + s
    one_more b = add-mul b 1 s ∙ ap (λ x. b * s + x) (one-mul s)

    below : (a b : ℕ) → a * s < b * s + s → a < b + 1
    below a b h = let e = one_more b in lt_of_mul-lt-mul_right s (omega arith)

    next : (k : ℕ) → k < p.len → k * s + s ≤ p.len * s
    next k h = let e = one_more k in let l : (k + 1) * s ≤ p.len * s = mul-le-mul_right s (omega arith) in omega arith

-- a list's
pub gives_list : {S A : Type 0} {steps : S → Option A → S → Type 0} (p : Run steps) (v : A → ℕ) {n : ℕ} {num : ℕ → ℕ} (ys : List ℕ) → n ≡ length ys → ((k : ℕ) → num k ≡ get_or ys k 0) → Numbers p v n num → Gives p v ys
gives_list p v ys e f g = record { numbers = rw (← e) (record { some = g.some; whole = g.whole; item = λ k h. g.item k h ∙ ap Some (f k) }) }

-- ---- every second

pub evens_long : (xs : List ℕ) → (length xs ≤ length (evens xs) * 2) × (length (evens xs) * 2 ≤ length xs + 1)
unfolding evens
evens_long [] = (omega arith, omega arith)
evens_long (x ∷ []) = (omega arith, omega arith)
evens_long (x ∷ y ∷ r) = let h = evens_long r in (omega (arith, h.0), omega (arith, h.1))

pub evens_at : (xs : List ℕ) (k : ℕ) → get_or xs (k * 2) 0 ≡ get_or (evens xs) k 0
unfolding evens
evens_at [] k = refl
evens_at (x ∷ []) zero = refl
evens_at (x ∷ []) (suc k) = let e : suc k * 2 ≡ suc (suc (k * 2)) = omega arith in ap (λ i. get_or (x ∷ []) i 0) e
evens_at (x ∷ y ∷ r) zero = refl
evens_at (x ∷ y ∷ r) (suc k) = let e : suc k * 2 ≡ suc (suc (k * 2)) = omega arith in ap (λ i. get_or (x ∷ y ∷ r) i 0) e ∙ evens_at r k

-- every number, or with step 2 every second
pub gives_heads : {S T A : Type 0} {steps : S → Option A → S → Type 0} {source : T → Option A → T → Type 0} (p : Run steps) (q : Run source) (v : A → ℕ) (xs : List ℕ) (s : ℕ) → 1 ≤ s → s ≤ 2 → IsStepByRun p q s
    → Gives q v xs → Gives p v (heads s xs)
gives_heads p q v xs zero a b i g = absurd (omega arith)
gives_heads p q v xs (suc zero) a b i g =
    gives_list p v xs refl (λ k. let e : k * 1 ≡ k = omega arith in ap (λ j. get_or xs j 0) e) (gives_step p q v (length xs) 1 a (omega arith) (omega arith) i g.numbers)
gives_heads p q v xs (suc (suc zero)) a b i g =
    let l = evens_long xs in
    gives_list p v (evens xs) refl (evens_at xs) (gives_step p q v (length (evens xs)) 2 a (omega (arith, l.0)) (omega (arith, l.1)) i g.numbers)
gives_heads p q v xs (suc (suc (suc s))) a b i g = absurd (omega arith)

-- all but the first n
pub gives_skip : {S T A : Type 0} {steps : S → Option A → S → Type 0} {source : T → Option A → T → Type 0} (p : Run steps) (q : Run source) (v : A → ℕ) (xs : List ℕ) (n : ℕ) → IsSkipRun p q n → Gives q v xs → Gives p v (drop n xs)
gives_skip p q v xs n i g =
    let l = length-drop n xs in
    gives_list p v (drop n xs) refl (λ k. sym (get_or-drop n xs k 0))
    (record {
      some = omega (arith, i.1, g.numbers.some);
      whole = λ w. omega (arith, i.1, g.numbers.whole (i.0 ∙ w));
      item = λ k h. ap (option_map v) (i.3 k) ∙ g.numbers.item (n + k) (omega (arith, i.1));
    })

-- what the fields hold: every second from the second on
pub odds_evens : (xs : List ℕ) → evens (drop 1 xs) ≡ odds xs
unfolding evens odds
odds_evens [] = refl
odds_evens (x ∷ []) = refl
odds_evens (x ∷ y ∷ []) = refl
odds_evens (x ∷ y ∷ z ∷ r) = ap (λ (l : List ℕ). y ∷ l) (odds_evens (z ∷ r))

pub heads_held : (s : ℕ) (xs : List ℕ) → 1 ≤ s → s ≤ 2 → heads s (drop (s - 1) xs) ≡ held s xs
heads_held zero xs a b = absurd (omega arith)
heads_held (suc zero) xs a b = refl
heads_held (suc (suc zero)) xs a b = odds_evens xs
heads_held (suc (suc (suc s))) xs a b = absurd (omega arith)

-- ---- all

pub all_each : (f : ℕ → Bool) (ys : List ℕ) → ((k : ℕ) → k < length ys → f (get_or ys k 0) ≡ true) → all f ys ≡ true
unfolding all
all_each f [] h = refl
all_each f (y ∷ ys) h = rw (h 0 (omega arith)) (all_each f ys (λ k l. h (suc k) (omega arith)))

pub all_none : (f : ℕ → Bool) (ys : List ℕ) (k : ℕ) → k < length ys → f (get_or ys k 0) ≡ false → all f ys ≡ false
unfolding all
all_none f [] k l h = absurd (omega arith)
all_none f (y ∷ ys) zero l h = rw h
all_none f (y ∷ ys) (suc k) l h = go (f y) (all_none f ys k (omega arith) h)
  where
    go : (b : Bool) → all f ys ≡ false → (b && all f ys) ≡ false
    go true e = e
    go false e = refl

module _ {S A F : Type 0} {steps : S → Option A → S → Type 0} (p : Run steps) (v : A → ℕ) {n : ℕ} {num : ℕ → ℕ} (gives : Numbers p v n num) (f : ℕ → Bool) (g : Mut F (A × Unit {0}) Bool) (c : F)
    (call : (x : A) (b : Bool) (q : F) → Called g c (x, tt) b q → (q ≡ c) × (b ≡ f (v x))) where
  -- a closure's answer at an item is the test of its number
  pub answered : (k : ℕ) {b : Bool} → k < p.len → IsSomeAnd (p.at k) (λ x. Called g c (x, tt) b c) → f (num k) ≡ b
  answered k {b} l m = go (p.at k) (gives.item k l) m
    where
      go : {y : ℕ} (o : Option A) → option_map v o ≡ Some y → IsSomeAnd o (λ x. Called g c (x, tt) b c) → f y ≡ b
      go None e m = absurd (cc)
      go (Some x) e m = ap f (sym (same_Some _ _ e)) ∙ sym (call x b c m).1

  -- and that item is there
  pub answered_if : (k : ℕ) {b : Bool} → k < p.len → IfSome (p.at k) (λ x. Called g c (x, tt) b c) → f (num k) ≡ b
  answered_if k {b} l m = answered k l (go (p.at k) (gives.item k l) m)
    where
      go : {y : ℕ} (o : Option A) → option_map v o ≡ Some y → IfSome o (λ x. Called g c (x, tt) b c) → IsSomeAnd o (λ x. Called g c (x, tt) b c)
      go None e m = absurd (cc)
      go (Some x) e m = m

-- what `all` says
pub all_gives : {S A F : Type 0} {steps : S → Option A → S → Type 0} (p : Run steps) (v : A → ℕ) {ys : List ℕ} (gives : Gives p v ys) (f : ℕ → Bool) (g : Mut F (A × Unit {0}) Bool) (c : F)
    (call : (x : A) (b : Bool) (q : F) → Called g c (x, tt) b q → (q ≡ c) × (b ≡ f (v x))) (r : Bool)
    → MatchBool r ((p.whole ≡ true) × AllItemsGive p g c true) (AnyItemGives p g c false) → r ≡ all f ys
all_gives p v {ys} gives f g c call true h =
    sym (all_each f ys (λ k l. answered_if p v gives.numbers f g c call k (omega (arith, gives.numbers.whole h.0)) (h.1 (λ a b q w. (call a.0 b q w).0) k)))
all_gives p v {ys} gives f g c call false h =
    let w = h (λ a b q w. (call a.0 b q w).0) in
    sym (all_none f ys w.0 (omega (arith, gives.numbers.some, w.1)) (answered p v gives.numbers f g c call w.0 w.1 w.2))

-- ---- rising

pub rising_each : (ys : List ℕ) → ((k : ℕ) → k + 1 < length ys → ltb (get_or ys k 0) (get_or ys (k + 1) 0) ≡ true) → rising ys ≡ true
unfolding rising
rising_each [] h = refl
rising_each (x ∷ []) h = refl
rising_each (x ∷ y ∷ r) h =
    rw (h 0 (omega arith))
    (rising_each (y ∷ r) (λ k l. let e : suc (k + 1) ≡ suc k + 1 = omega arith in ap (λ i. ltb (get_or (y ∷ r) k 0) (get_or (x ∷ y ∷ r) i 0)) e ∙ h (suc k) (omega arith)))

pub rising_none : (ys : List ℕ) (k : ℕ) → k + 1 < length ys → ltb (get_or ys k 0) (get_or ys (k + 1) 0) ≡ false → rising ys ≡ false
unfolding rising
rising_none [] k l h = absurd (omega arith)
rising_none (x ∷ []) k l h = absurd (omega arith)
rising_none (x ∷ y ∷ r) zero l h = rw h
rising_none (x ∷ y ∷ r) (suc k) l h =
    let e : suc (k + 1) ≡ suc k + 1 = omega arith in
    go (ltb x y) (rising_none (y ∷ r) k (omega arith) (ap (λ i. ltb (get_or (y ∷ r) k 0) (get_or (x ∷ y ∷ r) i 0)) e ∙ h))
  where
    go : (b : Bool) → rising (y ∷ r) ≡ false → (b && rising (y ∷ r)) ≡ false
    go true e = e
    go false e = refl

module _ {S A : Type 0} {steps : S → Option A → S → Type 0} (p : Run steps) (v : A → ℕ) {ys : List ℕ} (gives : Gives p v ys) where
  number : (k : ℕ) (d : A) → k < p.len → v (slice_index_or p.items k d) ≡ get_or ys k 0
  number k d l = go (p.at k) (p.reads k d l) (gives.numbers.item k l)
    where
      go : {x : A} {y : ℕ} (o : Option A) → option_map (λ z. z) o ≡ Some x → option_map v o ≡ Some y → v x ≡ y
      go None a b = absurd (cc)
      go (Some z) a b = ap v (sym (same_Some _ _ a)) ∙ same_Some _ _ b

  -- some item, where there is one
  item : (k : ℕ) → k < p.len → A
  item k l = go (p.at k) (gives.numbers.item k l)
    where
      go : {y : ℕ} (o : Option A) → option_map v o ≡ Some y → A
      go None e = absurd (cc)
      go (Some x) e = x

  two : (k : ℕ) (d : A) {b : Bool} → k + 1 < p.len → ltb (v (slice_index_or p.items k d)) (v (slice_index_or p.items (k + 1) d)) ≡ b → ltb (get_or ys k 0) (get_or ys (k + 1) 0) ≡ b
  two k d l e = rw (← number k d (omega arith), ← number (k + 1) d l) e

  -- what `is_sorted_by` says of `<`
  pub rises_gives : (r : Bool) → OnTrue r (p.whole ≡ true) × IsSortedAnswer (λ x y. ltb (v x) (v y)) p.items r → r ≡ rising ys
  rises_gives true h =
      sym (rising_each ys (λ k l. let m : k + 1 < p.len = omega (arith, gives.numbers.whole h.0) in let d = item (k + 1) m in two k d m (h.1.0 k d (omega (arith, p.long)))))
  rises_gives false h =
      let w = h.1.0 in
      let m : w.0 + 1 < p.len = omega (arith, w.1, p.long) in
      sym (rising_none ys w.0 (omega (arith, gives.numbers.some)) (let d = item (w.0 + 1) m in two w.0 d m (w.2 d)))
