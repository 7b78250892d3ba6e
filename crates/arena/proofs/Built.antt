-- What a step that builds a term promises: the arena only grows and stays well formed, and the term has its type and its meaning.
use mathlib.Core.Path.{◌≡◌, sym, ap, ◌∙◌, subst}
use Prim.Native.Nat.{ℕ, ◌≤◌}
use mathlib.Core.Bool.{Bool, true, false, cond}
use lib.Dec.{leb}
use borrow.Author.Tests.{le-leb}
use Rattle.arena.specs.Nodes.{Node, Nodes, node_at, Out, out, put}
use Rattle.arena.specs.Walks.{ruled, lit_rule, is_lit}
use Rattle.arena.specs.WellFormed.{is_type, is_term}
use Rattle.arena.specs.Values.{Value}
use Rattle.arena.specs.Meaning.{Interp, Good, mean_node, meaning}
use Rattle.arena.proofs.Bools.{by_cases}
use Rattle.arena.proofs.Ext.{Ext, ext_same}
use Rattle.arena.proofs.Chain.{WF, wf_ext, kind-type, mean_node_ext, mean_at, ruled_ext, lit_at}
use Rattle.arena.proofs.View.{Tm, Is, good_pos}
use Rattle.arena.proofs.Put.{put_law}
use Rattle.arena.proofs.Whole.{good_is}

-- the answer is a term of the type at t that means v, and a literal where L holds
pub record Law (a : Nodes) (L : Type 0) (t : ℕ) (v : Interp → Value) (o : Out) : Type 0 where
  pub ext : Ext a o.arena
  pub wf : WF o.arena
  pub tm : Tm o.arena t o.at
  pub means : (I : Interp) → Good I → meaning I o.arena o.at ≡ v I
  pub lit : L → is_lit o.arena o.at ≡ true

-- an operand as the answer
pub stay : {a : Nodes} {L : Type 0} {t : ℕ} {v : Interp → Value} (p : ℕ) → WF a → Tm a t p → ((I : Interp) → Good I → meaning I a p ≡ v I)
    → (L → is_lit a p ≡ true) → Law a L t v (out a p)
stay p w m h l = record { ext = ext_same; wf = w; tm = m; means = h; lit = l }

-- a node found or added
pub added : {a : Nodes} {L : Type 0} (n : Node) → WF a → 16 ≤ n.kind → Is a n → (L → ruled lit_rule a (is_lit a) n ≡ true)
    → Law a L n.type (λ I. mean_node I a (meaning I a) n) (put a n)
added {a} n w h i l =
    let g = good_is w i in
    let p = put_law w.chain n g in
    let a' = (put a n).arena in
    let q = (put a n).at in
    let k : is_term a' q ≡ true = subst (λ (m : Node). leb 16 m.kind ≡ true) (sym p.there) (le-leb 16 n.kind h) in
    record {
      ext = p.ext;
      wf = wf_ext w p.ext p.chain;
      tm = record { isterm = k; typed = ap (λ (m : Node). m.type) p.there };
      means = λ I G. mean_at I p.chain q k
          ∙ ap (λ (m : Node). mean_node I a' (meaning I a') m) p.there
          ∙ sym (mean_node_ext I n w.chain p.ext h g);
      lit = λ x. lit_at p.chain q k ∙ ap (λ (m : Node). ruled lit_rule a' (is_lit a') m) p.there ∙ sym (ruled_ext lit_rule n p.ext g) ∙ l x;
    }

-- the same with the meaning stated another way, or from other literals
pub reads : {a : Nodes} {L K : Type 0} {t : ℕ} {u v : Interp → Value} {o : Out} → Law a L t u o → (K → L) → ((I : Interp) → Good I → u I ≡ v I) → Law a K t v o
reads l f h = record { ext = l.ext; wf = l.wf; tm = l.tm; means = λ I G. l.means I G ∙ h I G; lit = λ x. l.lit (f x) }

pub retyped : {a : Nodes} {L : Type 0} {s t : ℕ} {v : Interp → Value} {o : Out} → s ≡ t → Law a L s v o → Law a L t v o
retyped {a} {L} {v = v} {o = o} e l = subst (λ (z : ℕ). Law a L z v o) e l

pub law_if : {a : Nodes} {L : Type 0} {t : ℕ} {v : Interp → Value} (b : Bool) (x y : Out) → (b ≡ true → Law a L t v x) → (b ≡ false → Law a L t v y) → Law a L t v (cond b x y)
law_if {a} {L} {t} {v} b x y f g = by_cases (Law a L t v) b x y f g

-- ---- a type found or added

pub record TypeLaw (a : Nodes) (n : Node) (o : Out) : Type 0 where
  pub ext : Ext a o.arena
  pub wf : WF o.arena
  pub there : node_at o.arena o.at ≡ n
  pub type : is_type o.arena o.at ≡ true

pub type_added : {a : Nodes} (n : Node) → WF a → n.kind ≤ 15 → Is a n → TypeLaw a n (put a n)
type_added {a} n w h i =
    let g = good_is w i in
    let p = put_law w.chain n g in
    record {
      ext = p.ext;
      wf = wf_ext w p.ext p.chain;
      there = p.there;
      type = kind-type (put a n).arena (put a n).at n.kind (ap (λ (m : Node). m.kind) p.there) (good_pos a n g) h;
    }
