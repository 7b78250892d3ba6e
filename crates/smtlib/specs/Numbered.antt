-- The operations by document 01's numbers: what `bvapp`, `bvcmp` and `bvso` take a closure for in the Rust. k is the number, m the width.
use Rattle.std.specs.Prelude.{ℕ, Bool, cond, eqb}
use Rattle.smtlib.specs.Theory.{bvadd, bvmul, bvudiv, bvurem, bvshl, bvlshr, bvult}
use Rattle.smtlib.specs.Logic.{bvsub, bvsdiv, bvsrem, bvsmod, bvule, bvslt, bvsle}
use Rattle.smtlib.specs.Overflow.{bvsaddo, bvssubo, bvsmulo}

-- 31 add, 32 sub, 33 mul, 34 sdiv, 35 udiv, 36 srem, 37 smod, 38 urem, 39 shl, and lshr, which is 40
unfoldable pub bvapp_of : ℕ → ℕ → ℕ → ℕ → ℕ
bvapp_of k m s t =
    cond (eqb k 31) (bvadd m s t)
    (cond (eqb k 32) (bvsub m s t)
    (cond (eqb k 33) (bvmul m s t)
    (cond (eqb k 34) (bvsdiv m s t)
    (cond (eqb k 35) (bvudiv m s t)
    (cond (eqb k 36) (bvsrem m s t)
    (cond (eqb k 37) (bvsmod m s t)
    (cond (eqb k 38) (bvurem m s t)
    (cond (eqb k 39) (bvshl m s t)
    (bvlshr m s t)))))))))

-- 41 slt, 42 sle, 43 ult, and ule, which is 44
unfoldable pub bvcmp_of : ℕ → ℕ → ℕ → ℕ → Bool
bvcmp_of k m s t =
    cond (eqb k 41) (bvslt m s t)
    (cond (eqb k 42) (bvsle m s t)
    (cond (eqb k 43) (bvult s t)
    (bvule s t)))

-- 46 saddo, 47 ssubo, and smulo, which is 48
unfoldable pub bvso_of : ℕ → ℕ → ℕ → ℕ → Bool
bvso_of k m s t =
    cond (eqb k 46) (bvsaddo m s t)
    (cond (eqb k 47) (bvssubo m s t)
    (bvsmulo m s t))
