-- The laws of 70 Not, 71 Neg, 72 IsEmpty: some of the plain result, but for a negation that overflows.
use mathlib.Core.Path.{ap}
use Prim.Native.Nat.{ℕ}
use Rattle.arena.specs.Nodes.{Nodes, Out}
use Rattle.arena.specs.Values.{Ty, tbool, tbv, topt, tset, Value, vsome, as_bool}
use Rattle.arena.specs.Meaning.{Interp, meaning}
use Rattle.arena.proofs.Ext.{ext_trans}
use Rattle.arena.proofs.Chain.{WF}
use Rattle.arena.proofs.Known.{Lit}
use Rattle.factory.specs.Makers.{some_of}
use Rattle.factory.specs.Bitvectors.{bvneg_t, bvnego_t}
use Rattle.factory.proofs.Law.{Typed, typed_ext, mean_old, lit_old, Law, reads, onward}
use Rattle.factory.proofs.Made.{some_law}
use Rattle.factory.proofs.Logic.{not_law}
use Rattle.factory.proofs.Bits.{bvneg_law, bvnego_law}
use Rattle.factory.proofs.SetLaws.{is_empty_law}
use Rattle.factory.proofs.Guards.{if_false_law}
use Rattle.compiler.specs.Compiler.{compiled_not, neg_unless, compiled_neg, compiled_is_empty}
use Rattle.compiler.specs.Meanings.{means70, means71, means72}

-- some of what a step answers
pub some_after : {a : Nodes} {L : Type 0} {y : Ty} {v : Interp → Value} {o : Out} → Law a L y v o → Law a L (topt y) (λ I. vsome (v I)) (some_of o.arena o.at)
some_after {o = o} l = onward l.ext (reads (some_law l.wf o.at l.typed) l.lit (λ I G. ap vsome (l.means I G)))

module _ {a : Nodes} (w : WF a) (t : ℕ) where
  pub compiled_not_law : Typed a tbool t → Law a (Lit a t) (topt tbool) (λ I. means70 (meaning I a t)) (compiled_not a t)
  unfolding compiled_not
  compiled_not_law m = some_after (not_law w t m)

  pub compiled_is_empty_law : {y : Ty} → Typed a (tset y) t → Law a (Lit a t) (topt tbool) (λ I. means72 (meaning I a t)) (compiled_is_empty a t)
  unfolding compiled_is_empty
  compiled_is_empty_law m = some_after (is_empty_law w t m)

  pub compiled_neg_law : Typed a (tbv 64) t → Law a (Lit a t) (topt (tbv 64)) (λ I. means71 (meaning I a t)) (compiled_neg a t)
  unfolding compiled_neg neg_unless as_bool
  compiled_neg_law m =
      let g = bvnego_law w t m in
      let b = bvnego_t a t in
      let n = bvneg_law g.wf t (typed_ext w g.ext m) in
      let c = bvneg_t b.arena t in
      onward (ext_trans g.ext n.ext)
      (reads (if_false_law n.wf b.at c.at (typed_ext g.wf n.ext g.typed) n.typed)
      (λ l. (lit_old n.ext g.typed (g.lit l), n.lit (lit_old g.ext m l)))
      (λ I G. rw (mean_old n.ext g.typed I, g.means I G, n.means I G, mean_old g.ext m I)))
