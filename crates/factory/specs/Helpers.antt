-- 'Helper functions for constructing compound terms'.
use Rattle.std.specs.Prelude.{ℕ, Bool, cond, ◌&&◌, List, [], ◌∷◌, eqb}
use Rattle.arena.specs.Nodes.{F, T, Nodes, kind_at, type_at, arg_at, elem_at, Out, out, ◌⨟◌}
use Rattle.factory.specs.Makers.{none_of, some_of}
use Rattle.factory.specs.Core.{not_t, or_t, eq_t, ite_t}

abbrev pub is_none_lit : Nodes → ℕ → Bool
is_none_lit a t = eqb (kind_at a t) 18

abbrev pub is_some_lit : Nodes → ℕ → Bool
is_some_lit a t = eqb (kind_at a t) 19

-- the test that stands where nothing folds
unfoldable pub eq_none : Nodes → ℕ → Out
eq_none a t = none_of a (elem_at a t) ⨟ λ b n. eq_t b t n

-- of an ite with its guard g and its arms x and y
unfoldable pub is_none_ite : Nodes → ℕ → ℕ → ℕ → ℕ → Out
is_none_ite a t g x y =
    cond (is_some_lit a x && is_some_lit a y) (out a F)
    (cond (is_some_lit a x && is_none_lit a y) (not_t a g)
    (cond (is_none_lit a x && is_some_lit a y) (out a g) (eq_none a t)))

unfoldable pub is_none : Nodes → ℕ → Out
is_none a t =
    cond (is_none_lit a t) (out a T)
    (cond (is_some_lit a t) (out a F)
    (cond (eqb (kind_at a t) 125) (is_none_ite a t (arg_at a t 0) (arg_at a t 1) (arg_at a t 2)) (eq_none a t)))

unfoldable pub is_some : Nodes → ℕ → Out
is_some a t = is_none a t ⨟ not_t

-- the Some, and the choice
unfoldable pub or_some : Nodes → ℕ → ℕ → ℕ → Out
or_some a g n t = some_of a t ⨟ λ b s. ite_t b g n s

-- None is made before Some
unfoldable pub if_false : Nodes → ℕ → ℕ → Out
if_false a g t = none_of a (type_at a t) ⨟ λ b n. or_some b g n t

-- the None, and the choice
unfoldable pub or_none : Nodes → ℕ → ℕ → ℕ → Out
or_none a g s t = none_of a (type_at a t) ⨟ λ b n. ite_t b g s n

-- and here after it
unfoldable pub if_true : Nodes → ℕ → ℕ → Out
if_true a g t = some_of a t ⨟ λ b s. or_none b g s t

abbrev pub is_option : Nodes → ℕ → Bool
is_option a t = eqb (kind_at a t) 3

-- none if g, else the option t
unfoldable pub none_or : Nodes → ℕ → ℕ → Out
none_or a g t = none_of a (elem_at a t) ⨟ λ b n. ite_t b g n t

-- what if_some and if_all_some share: none if g, else t, put in some if it is no option
unfoldable pub guarded : Nodes → ℕ → ℕ → Out
guarded a g t = cond (is_option a (type_at a t)) (none_or a g t) (if_false a g t)

unfoldable pub if_some : Nodes → ℕ → ℕ → Out
if_some a o t = is_none a o ⨟ λ b g. guarded b g t

-- one option's is_none, before its or
unfoldable pub or_is_none : Nodes → ℕ → ℕ → Out
or_is_none a g acc = is_none a g ⨟ λ b n. or_t b n acc

-- a fold from false
unfoldable pub any_none_on : Nodes → ℕ → List ℕ → Out
any_none_on a acc [] = out a acc
any_none_on a acc (g ∷ gs) = let o = or_is_none a g acc in any_none_on o.arena o.at gs

unfoldable pub any_none : Nodes → List ℕ → Out
any_none a gs = any_none_on a F gs

unfoldable pub if_all_some : Nodes → List ℕ → ℕ → Out
if_all_some a gs t = any_none a gs ⨟ λ b g. guarded b g t
