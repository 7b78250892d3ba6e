-- Bool, false and true stand in every well-formed arena, and terms stay terms of their type.
use mathlib.Core.Path.{◌≡◌, refl, ap, ◌∙◌, subst}
use Prim.Native.Nat.{ℕ}
use native.Mathlib.Omega.{arith}
use mathlib.Core.Bool.{true, false}
use Rattle.arena.specs.Lists.{every}
use Rattle.arena.specs.Nodes.{Node, Nodes, mark, over, node_at, positions, keys, F, T}
use Rattle.arena.specs.Walks.{ruled, walked, lit_rule, is_lit}
use Rattle.arena.specs.WellFormed.{is_type}
use Rattle.arena.specs.Values.{bool}
use Rattle.arena.specs.Meaning.{Interp, maker_means, term, mean_node, meaning}
use Rattle.arena.proofs.Ext.{Ext, node_ext, meaning_ext, walked_ext}
use Rattle.arena.proofs.Chain.{WF, term-below, type_ext, term_ext, term_type}
use Rattle.arena.proofs.View.{Tm}

pub tm_ext : {a b : Nodes} {t x : ℕ} → Ext a b → Tm a t x → Tm b t x
tm_ext {a} {b} {t} {x} e m =
    record { isterm = term_ext e x m.isterm; typed = ap (λ (n : Node). n.type) (node_ext e x (term-below a x m.isterm)) ∙ m.typed }

pub bool-type : {a : Nodes} → WF a → is_type a 0 ≡ true
unfolding node_at over mark every
bool-type w = type_ext w.base 0 refl

pub false_tm : {a : Nodes} → WF a → Tm a 0 F
unfolding node_at over mark
false_tm w = tm_ext w.base (record { isterm = refl; typed = refl })

pub true_tm : {a : Nodes} → WF a → Tm a 0 T
unfolding node_at over mark
true_tm w = tm_ext w.base (record { isterm = refl; typed = refl })

pub false_means : (I : Interp) {a : Nodes} → WF a → meaning I a F ≡ bool false
unfolding meaning over mark mean_node term maker_means positions keys
false_means I w = meaning_ext I w.base F (omega arith)

pub true_means : (I : Interp) {a : Nodes} → WF a → meaning I a T ≡ bool true
unfolding meaning over mark mean_node term maker_means positions keys
true_means I w = meaning_ext I w.base T (omega arith)

pub false_lit : {a : Nodes} → WF a → is_lit a F ≡ true
unfolding walked over mark ruled lit_rule
false_lit w = walked_ext lit_rule w.base F (omega arith)

pub true_lit : {a : Nodes} → WF a → is_lit a T ≡ true
unfolding walked over mark ruled lit_rule
true_lit w = walked_ext lit_rule w.base T (omega arith)

-- a term's type is a type
pub tm_type : {a : Nodes} {t x : ℕ} → WF a → Tm a t x → is_type a t ≡ true
tm_type {a} {t} {x} w m = subst (λ (z : ℕ). is_type a z ≡ true) m.typed (term_type w.chain x m.isterm)
