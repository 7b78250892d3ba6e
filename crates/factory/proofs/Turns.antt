-- any_none, one option at a time: what is left to do, and what the whole then is. Assumes nothing.
use mathlib.Core.Path.{subst}
use Prim.Native.Nat.{ℕ, ◌+◌, ◌≤◌, ◌<◌}
use Rattle.std.specs.Prelude.{Option, Some, None, Result, IsErr}
use lib.ListN.{length, drop, get_or, drop_of_length-le}
use Rattle.arena.proofs.Loops.{one}
use mathlib.Core.Bool.{false}
use mathlib.Core.List.{List, [], ◌∷◌}
use Rattle.arena.specs.Nodes.{F, Nodes, Out}
use Rattle.arena.specs.Values.{tbool}
use Rattle.arena.specs.Meaning.{meaning}
use Rattle.arena.specs.declared.TermPos.{TermPos}
use Rattle.nodes.specs.declared.Full.{Full}
use Rattle.nodes.specs.declared.Arena.{Arena}
use Rattle.nodes.specs.Builds.{nodes_of, term_reply, Builds}
use Rattle.arena.proofs.Chain.{WF}
use Rattle.nodes.proofs.Steps.{builds_here, builds_then, term_stop}
use Rattle.factory.specs.Fit.{Typed, OfKind, Options, Ready}
use Rattle.factory.specs.Helpers.{is_none, or_is_none, any_none_on, any_none}
use Rattle.factory.proofs.Law.{Law, tm_bool, typed_ext, onward}
use Rattle.factory.proofs.Made.{bool-at_tm}
use Rattle.factory.proofs.Logic.{or_law}
use Rattle.factory.proofs.Options.{is_none_law}
use Rattle.factory.proofs.Operands.{opt_of}
use Rattle.factory.proofs.Guards.{options_ext, options_terms, any_none_on_law}
use Rattle.factory.proofs.Calls.{ready_wf, ready_next}
use Rattle.arena.proofs.Known.{Lit}
use Rattle.factory.specs.Meanings.{means22}

-- one step: the option's test, and its or with what is known
pub or_is_none_law : {a : Nodes} (w : WF a) (g acc : ℕ) → OfKind a 3 g → Typed a tbool acc
    → Law a (Lit (is_none a g).arena (is_none a g).at × Lit (is_none a g).arena acc) tbool
    (λ I. means22 (meaning I (is_none a g).arena (is_none a g).at) (meaning I (is_none a g).arena acc)) (or_is_none a g acc)
unfolding or_is_none
or_is_none_law {a} w g acc k m =
    let n = is_none_law w g (opt_of w g k) in onward n.ext (or_law n.wf (is_none a g).at acc n.typed (typed_ext w n.ext m))

-- in the arena o the options gs are left; what is then done is the step Q on the first arena
pub record Left (Q : Nodes → Out) (o₀ o : Arena) (acc : ℕ) (gs : List ℕ) : Type 0 where
  pub ready : Ready (λ a. Typed a tbool acc × Options a gs) o
  pub whole : (r : Option ℕ) (n : Arena) → Builds (λ a. any_none_on a acc gs) o r n → Builds Q o₀ r n

pub left-start : {o : Arena} (gs : List ℕ) → Ready (λ a. Options a gs) o → Left (λ a. any_none a gs) o o F gs
unfolding any_none
left-start gs s =
    let w = ready_wf s in
    record { ready = record { arena = s.arena; fit = (tm_bool w (bool-at_tm w false), s.fit) }; whole = λ r n b. b }

module _ {Q : Nodes → Out} {o₀ o : Arena} {acc x : ℕ} {gs : List ℕ} (l : Left Q o₀ o acc (x ∷ gs)) where
  pub left-next : {n : Arena} {p : ℕ} → Builds (λ a. or_is_none a x acc) o (Some p) n → Left Q o₀ n p gs
  unfolding any_none_on
  left-next {n} {p} d =
      let w = ready_wf l.ready in
      let law = or_is_none_law w x acc l.ready.fit.1.0 l.ready.fit.0 in
      record {
        ready = ready_next (λ a q. Typed a tbool q × Options a gs) o n d l.ready.arena law.wf (law.typed, options_ext w law.ext law.wf gs l.ready.fit.1.1);
        whole = λ r q k. l.whole r q (builds_then o n d (λ b m. any_none_on b m gs) k);
      }

  pub left-full : {n : Arena} (r : Result TermPos Full) → IsErr r → Builds (λ a. or_is_none a x acc) o None n → Builds Q o₀ (term_reply r) n
  unfolding any_none_on
  left-full {n} r e d =
      let w = ready_wf l.ready in
      let law = or_is_none_law w x acc l.ready.fit.1.0 l.ready.fit.0 in
      let opts = options_ext w law.ext law.wf gs l.ready.fit.1.1 in
      l.whole (term_reply r) n (term_stop o _ r e d (any_none_on_law gs law.wf (or_is_none (nodes_of o) x acc).at law.typed (options_terms _ gs opts) opts).ext)

module _ {Q : Nodes → Out} {o₀ o : Arena} {acc : ℕ} (gs : List ℕ) (i : ℕ) where
  pub left_one : i < length gs → Left Q o₀ o acc (drop i gs) → Left Q o₀ o acc (get_or gs i 0 ∷ drop (i + 1) gs)
  left_one h l = subst (Left Q o₀ o acc) (one gs i h) l

  pub left_none : length gs ≤ i → Left Q o₀ o acc (drop i gs) → Left Q o₀ o acc []
  left_none h l = subst (Left Q o₀ o acc) (drop_of_length-le gs {i = i} h) l

pub left_end : {Q : Nodes → Out} {o₀ o : Arena} {acc : ℕ} → Left Q o₀ o acc [] → Builds Q o₀ (Some acc) o
unfolding any_none_on
left_end {o = o} {acc = acc} l = l.whole (Some acc) o (builds_here o l.ready.arena acc)
