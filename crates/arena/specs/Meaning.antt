-- What a type is by structure, and what a term means under an interpretation. Bitvector results are the crate bitvec's definitions.
use Rattle.std.specs.Prelude.{◌≡◌, ℕ, ◌-◌, true, not, cond, ◌&&◌, ◌||◌, List, [], ◌∷◌, map, get_or, eqb, leb}
use Rattle.smtlib.specs.Theory.{bvneg}
use Rattle.smtlib.specs.Logic.{zero_extend}
use Rattle.smtlib.specs.Overflow.{bvnego}
use Rattle.smtlib.specs.Numbered.{bvapp_of, bvcmp_of, bvso_of}
use Rattle.arena.specs.Nodes.{Node, Nodes, over, type_at, args, keys}
use Rattle.arena.specs.Values.{Ty, tbool, tbv, topt, tset, trec, TFields, tnil, tcons, Value, bool, bits, vnone, vsome, vset, vrec, eq_v, set_v, mem_v, subset_v, inter_v, rec_v, field_v, as_bool, as_bits, as_set, as_rec, value_or, fits, zero_of}

-- ---- types by structure

unfoldable pub rec_ty : List ℕ → List Ty → TFields
rec_ty [] ts = tnil
rec_ty (k ∷ ks) [] = tnil
rec_ty (k ∷ ks) (t ∷ ts) = tcons k t (rec_ty ks ts)

-- a type from its kind, parameter, attributes and members' types
unfoldable pub mk_ty : ℕ → ℕ → List ℕ → List Ty → Ty
mk_ty k p ks ts =
    cond (eqb k 2) (tbv p)
    (cond (eqb k 3) (topt (get_or ts 0 tbool))
    (cond (eqb k 4) (tset (get_or ts 0 tbool))
    (cond (eqb k 5) (trec (rec_ty ks ts)) tbool)))

unfoldable pub ty_node : Nodes → (ℕ → Ty) → Node → Ty
ty_node a f n = mk_ty n.kind n.par (keys n) (map f (args n))

unfoldable pub ty_of : Nodes → ℕ → Ty
ty_of = over tbool ty_node

-- the type, by structure, of the term at x
abbrev pub ty_at : Nodes → ℕ → Ty
ty_at a x = ty_of a (type_at a x)

unfoldable pub width : Ty → ℕ
width tbool = 0
width (tbv w) = w
width (topt t) = 0
width (tset t) = 0
width (trec fs) = 0

-- ---- interpretations

-- a value for each variable (id, type), a function for each (id, input type, output type)
pub record Interp : Type 0 where
  pub var : ℕ → Ty → Value
  pub fun : ℕ → Ty → Ty → Value → Value

-- it gives values of the types
pub record Good (I : Interp) : Type 0 where
  pub var-fits : (id : ℕ) (t : Ty) → fits t (I.var id t) ≡ true
  pub fun-fits : (id : ℕ) (t u : Ty) (v : Value) → fits t v ≡ true → fits u (I.fun id t u v) ≡ true

-- option_get of none, t the element type: the type's zero value
unfoldable pub none_get : Interp → Ty → Value
none_get I t = zero_of t

-- ---- a term from its node: k its kind, p its parameter, ks its attributes, t its type, u its first operand's type, vs or x y z its operands

-- 16 bool literal, 17 bitvec literal, 18 None, 19 Some, 20 Set, 21 Record, 22 variable
unfoldable pub maker_means : Interp → ℕ → ℕ → List ℕ → Ty → List Value → Value
maker_means I k p ks t vs =
    cond (eqb k 16) (bool (eqb p 1))
    (cond (eqb k 17) (bits p)
    (cond (eqb k 18) vnone
    (cond (eqb k 19) (vsome (get_or vs 0 vnone))
    (cond (eqb k 20) (vset (set_v vs))
    (cond (eqb k 21) (vrec (rec_v ks vs))
    (I.var p t))))))

-- 120 not, 121 and, 122 or, 124 eq, 125 ite, 126 uninterpreted
unfoldable pub core_means : Interp → ℕ → ℕ → Ty → Ty → Value → Value → Value → Value
core_means I k p t u x y z =
    cond (eqb k 120) (bool (not (as_bool x)))
    (cond (eqb k 121) (bool (as_bool x && as_bool y))
    (cond (eqb k 122) (bool (as_bool x || as_bool y))
    (cond (eqb k 124) (bool (eq_v x y))
    (cond (eqb k 125) (cond (as_bool x) y z)
    (I.fun p u t x)))))

-- 130 neg, 131 to 140, 141 to 144, 145 nego, 146 to 148, 149 zero_extend; w is the width of x, and s and t are numbers
unfoldable pub bv_means : ℕ → ℕ → ℕ → ℕ → ℕ → Value
bv_means k p w s t =
    cond (eqb k 130) (bits (bvneg w s))
    (cond (leb k 140) (bits (bvapp_of (k - 100) w s t))
    (cond (leb k 144) (bool (bvcmp_of (k - 100) w s t))
    (cond (eqb k 145) (bool (bvnego w s))
    (cond (leb k 148) (bool (bvso_of (k - 100) w s t))
    (bits (zero_extend w p s))))))

-- 150 member, 151 subset, 152 inter, 155 option_get, 156 record_get
unfoldable pub data_means : Interp → ℕ → ℕ → Ty → Value → Value → Value
data_means I k p t x y =
    cond (eqb k 150) (bool (mem_v x (as_set y)))
    (cond (eqb k 151) (bool (subset_v (as_set x) (as_set y)))
    (cond (eqb k 152) (vset (inter_v (as_set x) (as_set y)))
    (cond (eqb k 155) (value_or (none_get I t) x)
    (field_v p (as_rec x)))))

-- by ranges of kinds; ts are the operands' types
unfoldable pub term : Interp → ℕ → ℕ → List ℕ → Ty → List Ty → List Value → Value
term I k p ks t ts vs =
    let x = get_or vs 0 vnone in
    let y = get_or vs 1 vnone in
    let u = get_or ts 0 tbool in
    cond (leb k 99) (maker_means I k p ks t vs)
    (cond (leb k 129) (core_means I k p t u x y (get_or vs 2 vnone))
    (cond (leb k 149) (bv_means k p (width u) (as_bits x) (as_bits y))
    (data_means I k p t x y)))

unfoldable pub mean_node : Interp → Nodes → (ℕ → Value) → Node → Value
mean_node I a f n = term I n.kind n.par (keys n) (ty_of a n.type) (map (ty_at a) (args n)) (map f (args n))

unfoldable pub meaning : Interp → Nodes → ℕ → Value
meaning I = over vnone (mean_node I)
