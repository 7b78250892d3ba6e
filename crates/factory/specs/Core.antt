-- 'SMTLib core theory of equality with uninterpreted functions': the tests in the order of the Rust's.
use Rattle.std.specs.Prelude.{ℕ, Bool, false, cond, ◌&&◌, ◌||◌, [], ◌∷◌, eqb}
use Rattle.arena.specs.Nodes.{F, T, node, Nodes, kind_at, type_at, arg_at, put, Out, out, ◌⨟◌}
use Rattle.arena.specs.Walks.{is_lit}
use Rattle.factory.specs.Makers.{app, some_of}

-- a literal is folded, a negation gives back what it negates
unfoldable pub not_t : Nodes → ℕ → Out
not_t a t =
    cond (eqb t T) (out a F)
    (cond (eqb t F) (out a T)
    (cond (eqb (kind_at a t) 120) (out a (arg_at a t 0)) (app a 20 0 (t ∷ []))))

-- where the second is a negation it alone decides, as the Rust's first arm does
unfoldable pub opposites : Nodes → ℕ → ℕ → Bool
opposites a t u =
    cond (eqb (kind_at a u) 120) (eqb t (arg_at a u 0)) (cond (eqb (kind_at a t) 120) (eqb (arg_at a t 0) u) false)

-- what `and` and `or` share: `unit` adds nothing, the other literal decides
unfoldable pub junction : ℕ → ℕ → ℕ → Nodes → ℕ → ℕ → Out
junction op unit other a t u =
    cond (eqb t u || eqb u unit) (out a t)
    (cond (eqb t unit) (out a u)
    (cond (eqb t other || (eqb u other || opposites a t u)) (out a other) (app a op 0 (t ∷ u ∷ []))))

unfoldable pub and_t : Nodes → ℕ → ℕ → Out
and_t a t u = junction 21 T F a t u

unfoldable pub or_t : Nodes → ℕ → ℕ → Out
or_t a t u = junction 22 F T a t u

unfoldable pub implies : Nodes → ℕ → ℕ → Out
implies a t u = not_t a t ⨟ λ b n. or_t b n u

-- eq's closure `simplify`; a term that is compared with true or false here is of type Bool, as the two are of one type
unfoldable pub eq_simplify : Nodes → ℕ → ℕ → Out
eq_simplify a t u =
    cond (eqb t u) (out a T)
    (cond (is_lit a t && is_lit a u) (out a F)
    (cond (eqb t T) (out a u)
    (cond (eqb u T) (out a t)
    (cond (eqb t F) (not_t a u)
    (cond (eqb u F) (not_t a t) (app a 24 0 (t ∷ u ∷ [])))))))

-- one layer of Some falls away
unfoldable pub eq_t : Nodes → ℕ → ℕ → Out
eq_t a t u =
    cond (eqb (kind_at a t) 19 && eqb (kind_at a u) 19) (eq_simplify a (arg_at a t 0) (arg_at a u 0))
    (cond (eqb (kind_at a t) 19 && eqb (kind_at a u) 18 || eqb (kind_at a t) 18 && eqb (kind_at a u) 19) (out a F) (eq_simplify a t u))

-- ite's closure `simplify`
unfoldable pub ite_simplify : Nodes → ℕ → ℕ → ℕ → Out
ite_simplify a g t u =
    cond (eqb g T || eqb t u) (out a t)
    (cond (eqb g F) (out a u)
    (cond (eqb t T && eqb u F) (out a g)
    (cond (eqb t F && eqb u T) (not_t a g)
    (cond (eqb u F) (and_t a g t)
    (cond (eqb t T) (or_t a g u) (app a 25 (type_at a t) (g ∷ t ∷ u ∷ [])))))))

-- one layer of Some goes round the whole
unfoldable pub ite_of_somes : Nodes → ℕ → ℕ → ℕ → Out
ite_of_somes a g x y = ite_simplify a g x y ⨟ some_of

unfoldable pub ite_t : Nodes → ℕ → ℕ → ℕ → Out
ite_t a g t u =
    cond (eqb (kind_at a t) 19 && eqb (kind_at a u) 19) (ite_of_somes a g (arg_at a t 0) (arg_at a u 0)) (ite_simplify a g t u)

-- `app` of an uninterpreted function
unfoldable pub uninterpreted : Nodes → ℕ → ℕ → ℕ → Out
uninterpreted a id t x = put a (node 126 t id (x ∷ []))
