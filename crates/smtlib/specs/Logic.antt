-- SMT-LIB's logic QF_BV: its abbreviations over the theory, each by the logic's own cases. m is the width.
use Rattle.std.specs.Prelude.{ℕ, ◌-◌, Bool, cond, ◌&&◌, ◌||◌, eqb}
use Rattle.smtlib.specs.Theory.{extract, concat, bvneg, bvadd, bvudiv, bvurem, bvult}

-- ((_ extract |m-1| |m-1|) s), the top bit
unfoldable pub top : ℕ → ℕ → ℕ
top m s = extract (m - 1) (m - 1) s

-- the ite over the top bits x and y that bvsdiv, bvsrem and bvsmod share: both 0; 1 and 0; 0 and 1; else
unfoldable pub by_tops : ℕ → ℕ → ℕ → ℕ → ℕ → ℕ → ℕ
by_tops x y both left right else =
    cond (eqb x 0 && eqb y 0) both (cond (eqb x 1 && eqb y 0) left (cond (eqb x 0 && eqb y 1) right else))

-- bvsub s t is bvadd s (bvneg t)
unfoldable pub bvsub : ℕ → ℕ → ℕ → ℕ
bvsub m s t = bvadd m s (bvneg m t)

unfoldable pub bvsdiv : ℕ → ℕ → ℕ → ℕ
bvsdiv m s t =
    by_tops (top m s) (top m t)
    (bvudiv m s t)
    (bvneg m (bvudiv m (bvneg m s) t))
    (bvneg m (bvudiv m s (bvneg m t)))
    (bvudiv m (bvneg m s) (bvneg m t))

unfoldable pub bvsrem : ℕ → ℕ → ℕ → ℕ
bvsrem m s t =
    by_tops (top m s) (top m t)
    (bvurem m s t)
    (bvneg m (bvurem m (bvneg m s) t))
    (bvurem m s (bvneg m t))
    (bvneg m (bvurem m (bvneg m s) (bvneg m t)))

-- the absolute value: s where its top bit is 0, else bvneg s
unfoldable pub bvabs : ℕ → ℕ → ℕ
bvabs m s = cond (eqb (top m s) 0) s (bvneg m s)

-- with u = bvurem (bvabs s) (bvabs t)
unfoldable pub bvsmod_of : ℕ → ℕ → ℕ → ℕ → ℕ
bvsmod_of m s t u =
    cond (eqb u 0) u
    (by_tops (top m s) (top m t)
    u
    (bvadd m (bvneg m u) t)
    (bvadd m u t)
    (bvneg m u))

unfoldable pub bvsmod : ℕ → ℕ → ℕ → ℕ
bvsmod m s t = bvsmod_of m s t (bvurem m (bvabs m s) (bvabs m t))

-- bvult s t or s = t
unfoldable pub bvule : ℕ → ℕ → Bool
bvule s t = bvult s t || eqb s t

-- by the top bits x and y: they are 1 and 0, or they are equal and the unsigned order holds
unfoldable pub by_top : ℕ → ℕ → Bool → Bool
by_top x y unsigned = eqb x 1 && eqb y 0 || eqb x y && unsigned

unfoldable pub bvslt : ℕ → ℕ → ℕ → Bool
bvslt m s t = by_top (top m s) (top m t) (bvult s t)

unfoldable pub bvsle : ℕ → ℕ → ℕ → Bool
bvsle m s t = by_top (top m s) (top m t) (bvule s t)

-- (_ zero_extend i): concat of i zeros and s, a bitvector of width m + i
unfoldable pub zero_extend : ℕ → ℕ → ℕ → ℕ
zero_extend m i s = concat m 0 s
