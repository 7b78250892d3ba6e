-- `==` of two nodes is the definitions' test.
use Rattle.std.proofs.Common.{◌≡◌, Bool, true, false, ◌&&◌, [], ◌∷◌, eqb, refl, sym, ap, ap₂, ◌∙◌}
use Rattle.std.specs.Cmp.Lexicographic.{pointwise}
use Rattle.arena.specs.Lists.{every}
use Rattle.arena.specs.Nodes.{same, Node as ListNode}
use Rattle.arena.proofs.Loops.{same_list_is}
use Rattle.arena.specs.declared.Node.{Node}
use Rattle.arena.specs.Node.{node_of}

turned : (p t k m : Bool) → (p && (t && (k && m))) ≡ every (k ∷ t ∷ p ∷ m ∷ [])
unfolding every
turned true true true true = refl
turned true true true false = refl
turned true true false m = refl
turned true false true m = refl
turned true false false m = refl
turned false true true m = refl
turned false true false m = refl
turned false false true m = refl
turned false false false m = refl

pub eq_same : (m n : Node) → (eqb m.par n.par && (eqb m.ty n.ty && (eqb m.kind n.kind && pointwise eqb m.members.now n.members.now))) ≡ same (node_of m) (node_of n)
unfolding same
eq_same m n =
    turned (eqb m.par n.par) (eqb m.ty n.ty) (eqb m.kind n.kind) (pointwise eqb m.members.now n.members.now)
    ∙ ap (λ (b : Bool). every (eqb m.kind n.kind ∷ eqb m.ty n.ty ∷ eqb m.par n.par ∷ b ∷ [])) (same_list_is m.members.now n.members.now)

-- of nodes that are known by their cells, what `same` answers
pub same_of : (m n : Node) {k l : ListNode} {b : Bool} → node_of m ≡ k → node_of n ≡ l → b ≡ same (node_of m) (node_of n) → same k l ≡ b
same_of m n e f r = ap₂ same (sym e) (sym f) ∙ sym r

-- of nodes that are known by their cells, what `==` answers
pub same_by : (m n : Node) {k l : ListNode} {b : Bool} → node_of m ≡ k → node_of n ≡ l
    → b ≡ (eqb m.par n.par && (eqb m.ty n.ty && (eqb m.kind n.kind && pointwise eqb m.members.now n.members.now))) → same k l ≡ b
same_by m n e f r = ap₂ same (sym e) (sym f) ∙ sym (eq_same m n) ∙ sym r
