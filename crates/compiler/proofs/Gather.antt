-- compile_record, one listed field at a time: what is left to do, and what the whole then is. Assumes nothing.
use mathlib.Core.Path.{◌≡◌, refl, sym, ap, ap₂, ◌∙◌, subst}
use native.Mathlib.Omega.{arith}
use Prim.Native.Nat.{ℕ, ◌+◌, ◌%◌, ◌≤◌, ◌<◌}
use mathlib.Core.Bool.{true}
use mathlib.Core.List.{List, [], ◌∷◌, ◌++◌, append_assoc, append-nil}
use Rattle.std.specs.Prelude.{Option, Some, None, Result, Ok, Err, IsErr, ⊤}
use Rattle.nodes.specs.declared.Full.{Full}
use Rattle.compiler.specs.Buffers.{fields_reply, HoldsInner}
use lib.ListN.{length, take, drop, set, get_or, length-set}
use Rattle.arena.specs.Lists.{all, evens, odds}
use Rattle.arena.specs.Nodes.{Nodes, Out, out, ◌⨟◌}
use Rattle.arena.specs.WellFormed.{small, is_term}
use Rattle.arena.specs.Runs.{Holds}
use Rattle.arena.proofs.Ext.{Ext, ext_same, ext_trans}
use Rattle.arena.proofs.Chain.{WF}
use Rattle.arena.proofs.Loops.{two, few, Few, f0, f1}
use Rattle.arena.proofs.Steps.{then_used, then_at}
use Rattle.nodes.specs.declared.Arena.{Arena}
use Rattle.nodes.specs.Builds.{nodes_of, Builds}
use Rattle.nodes.proofs.Steps.{builds_here, builds_as, builds_then, builds_stop}
use Rattle.factory.specs.Fit.{OfKind, Options, Ready}
use Rattle.factory.specs.Makers.{some_of, record_of}
use Rattle.factory.specs.SetSteps.{option_get}
use Rattle.factory.proofs.Options.{get_law}
use Rattle.factory.proofs.Operands.{opt_of}
use Rattle.factory.proofs.Listed.{record_law}
use Rattle.factory.proofs.Guards.{options_ext, all_some_law}
use Rattle.factory.proofs.Picks.{pair_front, pair_back}
use Rattle.factory.proofs.Calls.{ready_wf, ready_next}
use Rattle.compiler.specs.Compiler.{gotten, inner, if_all_given, record_if_all, compiled_record}
use Rattle.compiler.proofs.Unary.{some_after}
use Rattle.compiler.proofs.Record.{alike_keys, got_all}

-- in the arena o the fields r are left, and f is what was gathered; what is then done is the step Q on the first arena, and t is gathered
pub record Left (Q : Nodes → Out) (o₀ : Arena) (t : List ℕ) (o : Arena) (f r : List ℕ) : Type 0 where
  pub ready : Ready (λ a. Options a (odds r)) o
  pub whole : (v : Option ℕ) (n : Arena) → Builds (λ a. out (gotten a r) 0) o v n → Builds Q o₀ v n
  pub held : t ≡ f ++ inner (nodes_of o) r

pub left-start : {o : Arena} (r : List ℕ) → Ready (λ a. Options a (odds r)) o → Left (λ a. out (gotten a r) 0) o (inner (nodes_of o) r) o [] r
left-start r s = record { ready = s; whole = λ v n b. b; held = refl }

module _ {Q : Nodes → Out} {o₀ : Arena} {t : List ℕ} {o : Arena} {f : List ℕ} (x y : ℕ) (r : List ℕ) (l : Left Q o₀ t o f (x ∷ y ∷ r)) where
  pub left-first : OfKind (nodes_of o) 3 y
  unfolding odds
  left-first = l.ready.fit.0

  pub left-next : {n : Arena} {p : ℕ} → Builds (λ a. option_get a y) o (Some p) n → Left Q o₀ t n (f ++ (x ∷ p ∷ [])) r
  unfolding gotten inner odds
  left-next {n} {p} d =
      let w = ready_wf l.ready in
      let k = l.ready.fit in
      let g = get_law w y (opt_of w y k.0) in
      let new = ap₂ (λ (q : ℕ) (b : Nodes). f ++ (x ∷ q ∷ inner b r)) (sym (then_at refl d.did)) (sym (then_used refl d.did)) in
      record {
        ready = ready_next (λ a q. Options a (odds r)) o n d l.ready.arena g.wf (options_ext w g.ext g.wf (odds r) k.1);
        whole = λ u q j. l.whole u q (builds_then o n d (λ b m. out (gotten b r) 0) j);
        held = l.held ∙ new ∙ sym (append_assoc f (x ∷ p ∷ []) (inner (nodes_of n) r));
      }

  pub left-full : {n : Arena} → Builds (λ a. option_get a y) o None n → length r % 2 ≡ 0 → Builds Q o₀ None n
  unfolding gotten odds
  left-full {n} d h =
      let w = ready_wf l.ready in
      let k = l.ready.fit in
      let g = get_law w y (opt_of w y k.0) in
      l.whole None n (builds_stop o _ d (got_all g.wf r h (options_ext w g.ext g.wf (odds r) k.1) ext_same g.wf).ext)

-- the next field's two numbers are written behind those gathered in b
pub left_write : {Q : Nodes → Out} {o₀ : Arena} {t : List ℕ} {o : Arena} (b : List ℕ) (i j x y : ℕ) (r : List ℕ) → i + 2 ≡ j → i + 1 < length b
    → Left Q o₀ t o (take i b) (x ∷ y ∷ r) → {n : Arena} {p : ℕ} → Builds (λ a. option_get a y) o (Some p) n
    → (length (set (set b i x) (i + 1) p) ≡ length b) × Left Q o₀ t n (take j (set (set b i x) (i + 1) p)) r
    × ((m : ℕ) → j ≤ m → drop m (set (set b i x) (i + 1) p) ≡ drop m b)
left_write {Q} {o₀} {t} b i j x y r e k l {n} {p} d = (
  length-set (set b i x) (i + 1) p ∙ length-set b i x,
  subst (λ (f : List ℕ). Left Q o₀ t n f r) (sym (pair_front b i x p k) ∙ ap (λ (q : ℕ). take q (set (set b i x) (i + 1) p)) e) (left-next x y r l d),
  (λ m h. pair_back b i x p m (omega arith)),
)

module _ {Q : Nodes → Out} {o₀ : Arena} {t : List ℕ} {o : Arena} {f : List ℕ} (l : List ℕ) (i : ℕ) where
  pub left-two : (j : ℕ) → i + 2 ≡ j → i + 1 < length l → Left Q o₀ t o f (drop i l) → Left Q o₀ t o f (get_or l i 0 ∷ get_or l (i + 1) 0 ∷ drop j l)
  left-two j e h k = subst (Left Q o₀ t o f) (two l i h ∙ ap (λ (q : ℕ). get_or l i 0 ∷ get_or l (i + 1) 0 ∷ drop q l) e) k

  pub left_end : length l ≤ i + 1 → Left Q o₀ t o f (drop i l) → Builds Q o₀ (Some 0) o × (t ≡ f)
  left_end h k = go (few l i h) k
    where
      go : {r : List ℕ} → Few r → Left Q o₀ t o f r → Builds Q o₀ (Some 0) o × (t ≡ f)
      go f0 k = unfold gotten inner in (k.whole (Some 0) o (builds_here o k.ready.arena 0), k.held ∙ append-nil f)
      go (f1 x) k = unfold gotten inner in (k.whole (Some 0) o (builds_here o k.ready.arena 0), k.held ∙ append-nil f)

-- what stands at the odd places, one pair further
pub odds-next : (l t t' : List ℕ) (i j : ℕ) → i + 2 ≡ j → i + 1 < length l → t' ≡ t ++ (get_or l (i + 1) 0 ∷ []) → t ++ odds (drop i l) ≡ t' ++ odds (drop j l)
unfolding odds
odds-next l t t' i j k h e = rw (two l i h, e, ← k) (sym (append_assoc t (get_or l (i + 1) 0 ∷ []) (odds (drop (i + 2) l))))

pub odds_last : (l t : List ℕ) (i : ℕ) → length l ≤ i + 1 → t ++ odds (drop i l) ≡ t
odds_last l t i h = go (few l i h)
  where
    go : {r : List ℕ} → Few r → t ++ odds r ≡ t
    go f0 = unfold odds in append-nil t
    go (f1 x) = unfold odds in append-nil t

-- the arena of the record of the fields ats, if all listed options are
pub record_if_all_ext : {a : Nodes} → WF a → (gs ats : List ℕ) → Options a gs → length ats ≤ 128 → all small (evens ats) ≡ true → all (is_term a) (odds ats) ≡ true
    → Ext a (record_if_all a gs ats).arena
unfolding record_if_all if_all_given
record_if_all_ext {a} w gs ats o n s m =
    let r = some_after (record_law w ats n s m) in
    let b = record_of a ats ⨟ some_of in
    ext_trans r.ext (all_some_law r.wf gs (options_ext w r.ext r.wf gs o) b.at r.typed).ext

-- the record, after all fields' inner terms: what its step asks, and the whole
module _ {o n : Arena} (ats : List ℕ) {d₀ d b₀ b : List ℕ} {k m : ℕ} (hd : Holds (odds ats) d₀ k d) (hb : Holds (inner (nodes_of o) ats) b₀ m b)
    (e : Builds (λ a. out (gotten a ats) 0) o (Some 0) n) where
  pub given-next : Ready (λ a. Options a (odds ats) × all small (evens ats) ≡ true) o → length ats % 2 ≡ 0
      → Ready (λ a. Options a (take k d) × all (is_term a) (odds (take m b)) ≡ true × all small (evens (take m b)) ≡ true) n
  given-next s even =
      let w = ready_wf s in
      let g = got_all w ats even s.fit.0 ext_same w in
      ready_next (λ a q. Options a (take k d) × all (is_term a) (odds (take m b)) ≡ true × all small (evens (take m b)) ≡ true) o n e s.arena g.wf (
        rw hd.front (options_ext w g.ext g.wf (odds ats) s.fit.0),
        rw hb.front g.terms,
        rw hb.front (ap (all small) (alike_keys g.types) ∙ s.fit.1),
      )

  pub given_then : {r : Option ℕ} {q : Arena} → Builds (λ a. record_if_all a (take k d) (take m b)) n r q → Builds (λ a. compiled_record a ats) o r q
  unfolding compiled_record
  given_then y = builds_as (builds_then o n e (λ a q. record_if_all a (take k d) (take m b)) y) (rw (hd.front, hb.front))

-- a step on the fields that had no room: nothing is said of what was gathered
pub fields_stop : {Q : Nodes → Out} {o n : Arena} (r : Result ⊤ Full) → IsErr r → Builds Q o None n → Builds Q o (fields_reply r) n
fields_stop (Ok u) e d = absurd cc
fields_stop (Err f) e d = d

pub inner_stop : (t b : List ℕ) (k : ℕ) (r : Result ⊤ Full) (b' : List ℕ) → IsErr r → HoldsInner t b k r b'
inner_stop t b k (Ok u) b' e = absurd cc
inner_stop t b k (Err f) b' e = tt
