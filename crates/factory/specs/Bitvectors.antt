-- 'SMTLib theory of finite bitvectors': literals are folded and nothing else, but for a double bvneg.
use Rattle.std.specs.Prelude.{ℕ, ◌+◌, Bool, cond, ◌&&◌, [], ◌∷◌, eqb, Option, Some, None}
use Rattle.smtlib.specs.Theory.{bvneg}
use Rattle.smtlib.specs.Logic.{zero_extend}
use Rattle.smtlib.specs.Overflow.{bvnego}
use Rattle.smtlib.specs.Numbered.{bvapp_of, bvcmp_of, bvso_of}
use Rattle.arena.specs.Nodes.{node, Nodes, kind_at, type_at, par_at, arg_at, width_at, put, Out, out, ◌⨟◌}
use Rattle.factory.specs.Makers.{bool_at, bitvec_type, bitvec_lit, app}

abbrev pub is_bv : Nodes → ℕ → Bool
is_bv a t = eqb (kind_at a t) 17

abbrev pub both_bv : Nodes → ℕ → ℕ → Bool
both_bv a t u = is_bv a t && is_bv a u

-- both values, where both are literals
unfoldable pub literals_at : Nodes → ℕ → ℕ → Option (ℕ × ℕ)
literals_at a t u = cond (both_bv a t u) (Some (par_at a t, par_at a u)) None

unfoldable pub bvneg_t : Nodes → ℕ → Out
bvneg_t a t =
    cond (is_bv a t) (bitvec_lit a (type_at a t) (bvneg (width_at a t) (par_at a t)))
    (cond (eqb (kind_at a t) 130) (out a (arg_at a t 0)) (app a 30 (type_at a t) (t ∷ [])))

-- 31 to 40; the operation's number stands for the closure
unfoldable pub bvapp_t : ℕ → Nodes → ℕ → ℕ → Out
bvapp_t op a t u =
    cond (both_bv a t u) (bitvec_lit a (type_at a t) (bvapp_of op (width_at a t) (par_at a t) (par_at a u))) (app a op (type_at a t) (t ∷ u ∷ []))

-- 41 to 44
unfoldable pub bvcmp_t : ℕ → Nodes → ℕ → ℕ → Out
bvcmp_t op a t u = cond (both_bv a t u) (out a (bool_at (bvcmp_of op (width_at a t) (par_at a t) (par_at a u)))) (app a op 0 (t ∷ u ∷ []))

unfoldable pub bvnego_t : Nodes → ℕ → Out
bvnego_t a t = cond (is_bv a t) (out a (bool_at (bvnego (width_at a t) (par_at a t)))) (app a 45 0 (t ∷ []))

-- 46 to 48
unfoldable pub bvso_t : ℕ → Nodes → ℕ → ℕ → Out
bvso_t op a t u = cond (both_bv a t u) (out a (bool_at (bvso_of op (width_at a t) (par_at a t) (par_at a u)))) (app a op 0 (t ∷ u ∷ []))

-- to the wider type w
unfoldable pub extended_to : Nodes → ℕ → ℕ → ℕ → Out
extended_to a n t w = cond (is_bv a t) (bitvec_lit a w (zero_extend (width_at a t) n (par_at a t))) (put a (node 149 w n (t ∷ [])))

-- the wider type comes first, for a literal and for a node
unfoldable pub zero_extend_t : Nodes → ℕ → ℕ → Out
zero_extend_t a n t = bitvec_type a (width_at a t + n) ⨟ λ b w. extended_to b n t w
