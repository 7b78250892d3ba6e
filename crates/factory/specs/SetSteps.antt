-- 'CVC theory of finite sets', and the 'core ADT operators' on options and records.
use Rattle.std.specs.Prelude.{ℕ, Bool, true, false, cond, ◌&&◌, List, [], ◌∷◌, eqb}
use Rattle.arena.specs.Lists.{all, mem?, common, field_d}
use Rattle.arena.specs.Nodes.{F, T, node, Nodes, kind_at, type_at, mem_at, arg_at, elem_at, put, Out, out, ◌⨟◌}
use Rattle.arena.specs.Walks.{is_lit}
use Rattle.factory.specs.Makers.{bool_at, app}
use Rattle.factory.specs.Core.{not_t, eq_t}

abbrev pub is_set : Nodes → ℕ → Bool
is_set a t = eqb (kind_at a t) 20

unfoldable pub is_nil : List ℕ → Bool
is_nil [] = true
is_nil (x ∷ r) = false

-- the literal empty set
abbrev pub empty_at : Nodes → ℕ → Bool
empty_at a t = is_set a t && is_nil (mem_at a t)

unfoldable pub set_member : Nodes → ℕ → ℕ → Out
set_member a t s =
    cond (empty_at a s) (out a F)
    (cond (is_set a s && (is_lit a t && is_lit a s)) (out a (bool_at (mem? t (mem_at a s)))) (app a 50 0 (t ∷ s ∷ [])))

abbrev pub both_sets : Nodes → ℕ → ℕ → Bool
both_sets a s t = is_set a s && (is_set a t && (is_lit a s && is_lit a t))

unfoldable pub set_subset : Nodes → ℕ → ℕ → Out
set_subset a s t =
    cond (eqb s t) (out a T)
    (cond (empty_at a s) (out a T)
    (cond (both_sets a s t) (out a (bool_at (all (λ x. mem? x (mem_at a t)) (mem_at a s)))) (app a 51 0 (s ∷ t ∷ []))))

-- the literal set of the members that both have
abbrev pub inter_of : Nodes → ℕ → ℕ → Out
inter_of a s t = put a (node 20 (type_at a s) 0 (common (mem_at a s) (mem_at a t)))

unfoldable pub set_inter : Nodes → ℕ → ℕ → Out
set_inter a s t =
    cond (eqb s t) (out a s)
    (cond (empty_at a s) (out a s)
    (cond (empty_at a t) (out a t)
    (cond (both_sets a s t) (inter_of a s t) (app a 52 (type_at a s) (s ∷ t ∷ [])))))

unfoldable pub set_is_empty : Nodes → ℕ → Out
set_is_empty a s =
    cond (is_set a s) (out a (bool_at (is_nil (mem_at a s)))) (put a (node 20 (type_at a s) 0 []) ⨟ λ b e. eq_t b s e)

unfoldable pub not_empty : Nodes → ℕ → Out
not_empty a s = set_is_empty a s ⨟ not_t

unfoldable pub set_intersects : Nodes → ℕ → ℕ → Out
set_intersects a s t = set_inter a s t ⨟ not_empty

unfoldable pub option_get : Nodes → ℕ → Out
option_get a t = cond (eqb (kind_at a t) 19) (out a (arg_at a t 0)) (app a 55 (elem_at a t) (t ∷ []))

-- the attribute k, which the record's type has
unfoldable pub record_get : Nodes → ℕ → ℕ → Out
record_get a k t =
    cond (eqb (kind_at a t) 21) (out a (field_d (mem_at a t) k)) (put a (node 156 (field_d (mem_at a (type_at a t)) k) k (t ∷ [])))
