-- The laws of the bitvector operations, 30 to 49: literals are folded, and one law holds for each shape, over the operation's number and the width.
use mathlib.Core.Path.{◌≡◌, refl, sym, ap, ap₂, ◌∙◌, subst}
use Prim.Native.Nat.{ℕ, ◌+◌, ◌-◌, ◌^◌, ◌≤◌, ◌<◌}
use native.Mathlib.Omega.{arith}
use mathlib.Core.Bool.{Bool, true, false, cond, ◌&&◌}
use mathlib.Core.List.{[], ◌∷◌}
use lib.Dec.{eqb}
use borrow.Author.Tests.{eqb-true}
use Rattle.smtlib.specs.Theory.{bvneg}
use Rattle.smtlib.specs.Logic.{zero_extend}
use Rattle.smtlib.specs.Overflow.{bvnego}
use Rattle.smtlib.specs.Numbered.{bvapp_of, bvcmp_of, bvso_of}
use Rattle.smtlib.proofs.Below.{bvneg-lt, bvapp_lt}
use Rattle.smtlib.proofs.Negation.{neg_neg}
use Rattle.arena.specs.Nodes.{Node, node, Nodes, kind_at, type_at, par_at, arg_at, width_at, positions, put, Out, out}
use Rattle.arena.specs.Values.{Ty, tbool, tbv, Value, bool, bits, as_bits}
use Rattle.arena.specs.Meaning.{ty_of, ty_at, width, Interp, Good, bv_means, term, mean_node, meaning}
use Rattle.arena.proofs.Bools.{t≢f, and_l, and_r}
use Rattle.arena.proofs.Chain.{WF}
use Rattle.arena.proofs.View.{Tm, is_bv_lem, is_neg, is_bvn, is_nego, is_bvt, is_zext}
use Rattle.arena.proofs.Types.{ty_bool, ty_bv, width_range}
use Rattle.arena.proofs.Fits.{bits_wider, zero_extend_is}
use Rattle.arena.proofs.Sound.{mean_bvn, mean_cmp, mean_so, bits_at}
use Rattle.arena.proofs.Known.{Lit, bv_node, neg_node, lit_bv}
use Rattle.arena.proofs.Built.{type_added}
use Rattle.factory.specs.Makers.{bool_at, bitvec_type, app}
use Rattle.factory.specs.Bitvectors.{is_bv, both_bv, bvneg_t, bvapp_t, bvcmp_t, bvnego_t, bvso_t, extended_to, zero_extend_t}
use Rattle.factory.specs.Meanings.{means30, means_app, means_cmp, means45, means_so, means49}
use Rattle.factory.proofs.Law.{Typed, tm_typed, same_tm, bv_kind, bv_width, typed_ext, mean_old, lit_old, Law, stay, applied, reads, onward, law_if}
use Rattle.factory.proofs.Made.{says, bitvec_law}

-- ---- a bitvector term of width n

module _ {a : Nodes} (w : WF a) {n : ℕ} (t : ℕ) (m : Typed a (tbv n) t) where
  own : Tm a (type_at a t) t
  own = record { isterm = m.isterm; typed = refl }

  -- its node says its width
  wide : width (ty_at a t) ≡ n
  unfolding width
  wide = ap width m.typed

  -- a literal: its number
  number : is_bv a t ≡ true → (I : Interp) → as_bits (meaning I a t) ≡ par_at a t
  unfolding as_bits
  number e I = rw ((bv_node w t (eqb-true (kind_at a t) 17 e)).means I)

  below : is_bv a t ≡ true → par_at a t < 2 ^ width_at a t
  below e = (bv_node w t (eqb-true (kind_at a t) 17 e)).below

  -- a term that is no literal number is no literal
  open_bv : is_bv a t ≡ false → Lit a t → ⊥
  open_bv e l = t≢f (sym (rw (lit_bv w (type_at a t) t own l (bv_kind w m))) ∙ e)

  -- a literal of its type
  literal : {L : Type 0} (x : ℕ) → x < 2 ^ width_at a t → Law a L (tbv n) (λ I. bits x) (put a (node 17 (type_at a t) x []))
  literal x h = bitvec_law w (type_at a t) x m.typed (bv_kind w m) h

  -- ---- 30 neg, 45 nego

  pub bvneg_law : Law a (Lit a t) (tbv n) (λ I. means30 n (meaning I a t)) (bvneg_t a t)
  unfolding bvneg_t mean_node term bv_means positions width as_bits
  bvneg_law =
      law_if (is_bv a t) _ _
      (λ e. reads (literal (bvneg (width_at a t) (par_at a t)) (bvneg-lt (width_at a t) (par_at a t))) (λ l. l) (λ I G. rw (number e I, bv_width w m)))
      (λ e1. law_if (eqb (kind_at a t) 130) _ _
      (λ e. let k = neg_node w t (eqb-true (kind_at a t) 130 e) in
      let u = tm_typed m.typed k.under in
      stay (arg_at a t 0) w u (λ I G. twice I G k.under (k.means I) (ap width u.typed)) (λ l. absurd (open_bv e1 l)))
      (λ e2. reads (applied (node 130 (type_at a t) 0 (t ∷ [])) w (omega arith) (is_neg (type_at a t) t (bv_kind w m) own) m.typed (open_bv e1)) (λ l. l)
      (λ I G. ap (λ (k : ℕ). bits (bvneg k (as_bits (meaning I a t)))) wide)))
    where
      -- negating twice changes nothing
      twice : (I : Interp) → Good I → {x : ℕ} → Tm a (type_at a t) x → meaning I a t ≡ bits (bvneg (width (ty_at a x)) (as_bits (meaning I a x))) → width (ty_at a x) ≡ width (tbv n)
          → meaning I a x ≡ means30 n (meaning I a t)
      twice I G {x} k h q =
          let s = bits_at I G w (type_at a t) x (bv_kind w m) k in
          let lt : as_bits (meaning I a x) < 2 ^ n = subst (λ (z : ℕ). as_bits (meaning I a x) < 2 ^ z) (bv_width w m) s.1 in
          sym s.0 ∙ ap bits (sym (neg_neg n (as_bits (meaning I a x)) lt) ∙ ap (bvneg n) (sym (ap as_bits h ∙ ap (λ (z : ℕ). bvneg z (as_bits (meaning I a x))) q)))

  pub bvnego_law : Law a (Lit a t) tbool (λ I. means45 n (meaning I a t)) (bvnego_t a t)
  unfolding bvnego_t mean_node term bv_means positions
  bvnego_law =
      law_if (is_bv a t) _ _
      (λ e. says w (bvnego (width_at a t) (par_at a t)) (λ I G. rw (number e I, bv_width w m)))
      (λ e. reads (applied (node 145 0 0 (t ∷ [])) w (omega arith) (is_nego (type_at a t) t (bv_kind w m) own) (ty_bool w.base) (open_bv e)) (λ l. l)
      (λ I G. ap (λ (k : ℕ). bool (bvnego k (as_bits (meaning I a t)))) wide))

-- ---- two of one width

module _ {a : Nodes} (w : WF a) {n : ℕ} (op t u : ℕ) (m : Typed a (tbv n) t) (k : Typed a (tbv n) u) where
  -- fold two literals, else add a node
  folded : {y : Ty} (v : Interp → Value) (x z : Out) → (is_bv a t ≡ true → is_bv a u ≡ true → Law a (Lit a t × Lit a u) y v x)
      → ((Lit a t × Lit a u → ⊥) → Law a (Lit a t × Lit a u) y v z) → Law a (Lit a t × Lit a u) y v (cond (both_bv a t u) x z)
  folded v x z f g =
      law_if (both_bv a t u) x z (λ e. f (and_l _ _ e) (and_r (is_bv a t) _ e)) (λ e. g (λ l. apart (is_bv a t) refl l e))
    where
      apart : (b : Bool) → is_bv a t ≡ b → Lit a t × Lit a u → (b && is_bv a u) ≡ false → ⊥
      apart false h l e = open_bv w t m h l.0
      apart true h l e = open_bv w u k e l.1

  -- ---- 31 to 40

  pub bvapp_law : 31 ≤ op → op ≤ 40 → Law a (Lit a t × Lit a u) (tbv n) (λ I. means_app op n (meaning I a t) (meaning I a u)) (bvapp_t op a t u)
  unfolding bvapp_t
  bvapp_law lo hi =
      folded (λ I. means_app op n (meaning I a t) (meaning I a u)) _ _
      (λ e f. reads (literal w t m (bvapp_of op (width_at a t) (par_at a t) (par_at a u)) (bvapp_lt op (width_at a t) (par_at a t) (par_at a u) (below w t m e))) (λ l. l)
      (λ I G. rw (number w t m e I, number w u k f I, bv_width w m)))
      (λ o. reads (applied (node (100 + op) (type_at a t) 0 (t ∷ u ∷ [])) w (omega arith) (is_bvn (100 + op) (type_at a t) t u (omega arith) (omega arith) (bv_kind w m) (own w t m) (same_tm w m k)) m.typed o) (λ l. l)
      (λ I G. mean_bvn I a (meaning I a) (100 + op) (type_at a t) t u (omega arith) (omega arith)
      ∙ ap₂ (λ (p q : ℕ). bits (bvapp_of p q (as_bits (meaning I a t)) (as_bits (meaning I a u)))) (omega arith) (wide w t m)))

  -- ---- 41 to 44, 46 to 48: a test f

  test_law : (f : ℕ → ℕ → ℕ → ℕ → Bool) → 41 ≤ op → op ≤ 48 → (op ≡ 45 → ⊥)
      → ((I : Interp) → mean_node I a (meaning I a) (node (100 + op) 0 0 (t ∷ u ∷ [])) ≡ bool (f (100 + op - 100) (width (ty_at a t)) (as_bits (meaning I a t)) (as_bits (meaning I a u))))
      → Law a (Lit a t × Lit a u) tbool (λ I. bool (f op n (as_bits (meaning I a t)) (as_bits (meaning I a u))))
      (cond (both_bv a t u) (out a (bool_at (f op (width_at a t) (par_at a t) (par_at a u)))) (app a op 0 (t ∷ u ∷ [])))
  test_law f lo hi ne h =
      folded (λ I. bool (f op n (as_bits (meaning I a t)) (as_bits (meaning I a u)))) _ _
      (λ e g. says w (f op (width_at a t) (par_at a t) (par_at a u)) (λ I G. rw (number w t m e I, number w u k g I, bv_width w m)))
      (λ o. reads (applied (node (100 + op) 0 0 (t ∷ u ∷ [])) w (omega arith) (is_bvt (100 + op) (type_at a t) t u (omega arith) (omega arith) (λ z. ne (omega arith)) (bv_kind w m) (own w t m) (same_tm w m k)) (ty_bool w.base) o) (λ l. l)
      (λ I G. h I ∙ ap₂ (λ (p q : ℕ). bool (f p q (as_bits (meaning I a t)) (as_bits (meaning I a u)))) (omega arith) (wide w t m)))

  pub bvcmp_law : 41 ≤ op → op ≤ 44 → Law a (Lit a t × Lit a u) tbool (λ I. means_cmp op n (meaning I a t) (meaning I a u)) (bvcmp_t op a t u)
  unfolding bvcmp_t
  bvcmp_law lo hi = test_law bvcmp_of lo (omega arith) (λ z. omega arith) (λ I. mean_cmp I a (meaning I a) (100 + op) 0 t u (omega arith) (omega arith))

  pub bvso_law : 46 ≤ op → op ≤ 48 → Law a (Lit a t × Lit a u) tbool (λ I. means_so op n (meaning I a t) (meaning I a u)) (bvso_t op a t u)
  unfolding bvso_t
  bvso_law lo hi = test_law bvso_of (omega arith) hi (λ z. omega arith) (λ I. mean_so I a (meaning I a) (100 + op) 0 t u (omega arith) (omega arith))

-- ---- 49 zero_extend, by x; the wider type is found or added first

pub zero_extend_law : {a : Nodes} → WF a → {n : ℕ} (x t : ℕ) → Typed a (tbv n) t → n + x ≤ 64 → Law a (Lit a t) (tbv (n + x)) (λ I. means49 n x (meaning I a t)) (zero_extend_t a x t)
unfolding zero_extend_t extended_to mean_node term bv_means positions
zero_extend_law {a} w {n} x t m h =
    let v = bv_width w m in
    let r = (width_range w.chain (type_at a t) (bv_kind w m)).0 in
    let p = type_added (node 2 0 (width_at a t + x) []) w (omega arith) (is_bv_lem (width_at a t + x) (omega arith) (omega arith)) in
    let b = (bitvec_type a (width_at a t + x)).arena in
    let s = (bitvec_type a (width_at a t + x)).at in
    let kind : kind_at b s ≡ 2 = ap (λ (z : Node). z.kind) p.there in
    let par : par_at b s ≡ n + x = ap (λ (z : Node). z.par) p.there ∙ ap (λ (z : ℕ). z + x) v in
    let k = typed_ext w p.ext m in
    let v' = bv_width p.wf k in
    let ty : ty_of b s ≡ tbv (n + x) = ty_bv p.wf.chain s kind ∙ ap tbv par in
    onward p.ext
    (reads (law_if (is_bv b t) _ _
    (λ e. reads (bitvec_law p.wf s (zero_extend (width_at b t) x (par_at b t)) ty kind
    (rw (zero_extend_is (width_at b t) x (par_at b t), par) (bits_wider n x (par_at b t) (subst (λ (z : ℕ). par_at b t < 2 ^ z) v' (below p.wf t k e))))) (λ l. l)
    (λ I G. rw (number p.wf t k e I, v')))
    (λ e. reads (applied (node 149 s x (t ∷ [])) p.wf (omega arith) (is_zext s (type_at b t) x t kind (bv_kind p.wf k) (own p.wf t k) (par ∙ ap (λ (z : ℕ). z + x) (sym v'))) ty (open_bv p.wf t k e)) (λ l. l)
    (λ I G. ap (λ (z : ℕ). bits (zero_extend z x (as_bits (meaning I b t)))) (wide p.wf t k))))
    (lit_old p.ext m) (λ I G. ap (means49 n x) (mean_old p.ext m I)))
