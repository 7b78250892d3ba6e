-- The law of 56 record_get.
use mathlib.Core.Path.{◌≡◌, refl, sym, ap, ◌∙◌, subst}
use Prim.Native.Nat.{ℕ}
use native.Mathlib.Omega.{arith}
use mathlib.Core.Bool.{true}
use mathlib.Core.Option.{some}
use mathlib.Core.List.{List, [], ◌∷◌}
use lib.Dec.{eqb}
use borrow.Author.Tests.{eqb-true, eqb-false}
use Rattle.arena.specs.Lists.{field}
use Rattle.arena.specs.Nodes.{node, Nodes, kind_at, type_at, mem_at, positions, put, out}
use Rattle.arena.specs.Walks.{is_lit}
use Rattle.arena.specs.WellFormed.{small, is_term}
use Rattle.arena.specs.Values.{as_rec}
use Rattle.arena.specs.Meaning.{ty_of, data_means, term, mean_node, meaning}
use Rattle.arena.proofs.Runs.{field-field_d, field-all}
use Rattle.arena.proofs.Chain.{WF}
use Rattle.arena.proofs.View.{is_fld}
use Rattle.arena.proofs.Fields.{field_types_lem, rec-field}
use Rattle.arena.proofs.Known.{Lit, rec-node, lit_rec}
use Rattle.factory.specs.SetSteps.{record_get}
use Rattle.factory.specs.Meanings.{means56}
use Rattle.factory.proofs.Law.{Law, stay, applied, law_if}

-- u is the type of the attribute k
pub record_get_law : {a : Nodes} → WF a → (k t u : ℕ) → small k ≡ true → is_term a t ≡ true → kind_at a (type_at a t) ≡ 5 → field (mem_at a (type_at a t)) k ≡ some u
    → Law a (Lit a t) (ty_of a u) (λ I. means56 k (meaning I a t)) (record_get a k t)
unfolding record_get mean_node term data_means positions as_rec
record_get_law {a} w k t u s m h f =
    law_if (eqb (kind_at a t) 21) _ _
    (λ e.
    let n = rec-node w t (eqb-true (kind_at a t) 21 e) in
    let r = mem_at a t in
    let x = field_types_lem a r k u (subst (λ (q : List ℕ). field q k ≡ some u) n.types f) in
    let d = field-field_d r k x.0 x.1 in
    subst (λ (z : ℕ). Law a (Lit a t) (ty_of a u) (λ I. means56 k (meaning I a t)) (out a z)) (sym d)
    (stay x.0 w (record { isterm = field-all (is_term a) r k x.0 n.terms x.1; typed = ap (ty_of a) x.2 })
    (λ I G. rw (n.means I) (sym (rec-field (meaning I a) r k x.0 x.1))) (λ l. field-all (is_lit a) r k x.0 (sym n.lits ∙ l) x.1)))
    (λ e. subst (λ (z : ℕ). Law a (Lit a t) (ty_of a u) (λ I. means56 k (meaning I a t)) (put a (node 156 z k (t ∷ [])))) (sym (field-field_d (mem_at a (type_at a t)) k u f))
    (applied (node 156 u k (t ∷ [])) w (omega arith) (is_fld (type_at a t) u k t h (record { isterm = m; typed = refl }) s f) refl
    (λ l. eqb-false (kind_at a t) 21 e (lit_rec w (type_at a t) t (record { isterm = m; typed = refl }) l h))))
