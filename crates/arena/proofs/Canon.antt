-- Two literals of one type at different positions mean different values.
use mathlib.Core.Path.{◌≡◌, refl, sym, ap, ◌∙◌, subst}
use Prim.Native.Nat.{ℕ, zero, suc, ◌%◌, ◌≤◌, ◌<◌}
use native.Mathlib.Omega.{arith}
use mathlib.Core.Bool.{Bool, true, false}
use mathlib.Core.List.{List, [], ◌∷◌, map}
use lib.ListN.{length, get_or}
use lib.Dec.{eqb, leb, ltb}
use borrow.Author.Tests.{eqb-true, eqb-false, leb-true, leb-false, le-leb, lt-leb, ltb-true}
use Rattle.arena.specs.Lists.{all, mem?, evens, odds}
use Rattle.arena.specs.Nodes.{Node, node, Nodes, node_at, kind_at, type_at, par_at, mem_at, arg_at, positions, args, keys, field_types}
use Rattle.arena.specs.Walks.{ruled, lit_rule, is_lit}
use Rattle.arena.specs.WellFormed.{field_run, is_term, maker_test}
use Rattle.arena.specs.Values.{Value, bool, bits, vnone, vsome, vset, vrec, eq_v, set_v, mem_v, rec_v}
use Rattle.arena.specs.Meaning.{Interp, maker_means, term, mean_node, meaning}
use Rattle.arena.proofs.Bools.{t≢f, every-all, from}
use Rattle.arena.proofs.Runs.{mem0, mem1, mem-here, mem-there, all-mem, any-find, mem-any, same_list_lem}
use Rattle.arena.proofs.Rising.{In, rise_ext}
use Rattle.arena.proofs.Ext.{node-kind}
use Rattle.arena.proofs.Chain.{WF, term-kind, term_pos, placed-term, args-below, mean_kind, lit_at}
use Rattle.arena.proofs.Put.{unique}
use Rattle.arena.proofs.Whole.{good_kind, maker_test_lem}
use Rattle.arena.proofs.Sets.{eq_v_eq, eq_v_refl}
use Rattle.arena.proofs.SetOps.{set_mem}

-- the kind of literal that means a value
unfoldable pub val_kind : Value → ℕ
val_kind (bool b) = 16
val_kind (bits n) = 17
val_kind vnone = 18
val_kind (vsome v) = 19
val_kind (vset s) = 20
val_kind (vrec f) = 21

-- the kinds of literals
six : {G : Type 0} (k : ℕ) → 16 ≤ k → k ≤ 21 → (k ≡ 16 → G) → (k ≡ 17 → G) → (k ≡ 18 → G) → (k ≡ 19 → G) → (k ≡ 20 → G) → (k ≡ 21 → G) → G
six k h j a b c d e f =
    from k 16 h a (λ h. from k 17 h b (λ h. from k 18 h c (λ h. from k 19 h d (λ h. from k 20 h e (λ h. f (omega arith))))))

-- ---- canonicity

module _ (I : Interp) {a : Nodes} (w : WF a) where
  abbrev M : ℕ → Value
  M p = meaning I a p

  pub record Literal (p : ℕ) : Type 0 where
    pub isterm : is_term a p ≡ true
    pub islit : is_lit a p ≡ true

  -- the node at p with its kind written
  abbrev N : ℕ → ℕ → Node
  N k p = node k (type_at a p) (par_at a p) (mem_at a p)

  pub lit_kind : (p : ℕ) → Literal p → kind_at a p ≤ 21
  unfolding ruled lit_rule
  lit_kind p l = go (leb (kind_at a p) 21) refl
    where
      e : ruled lit_rule a (is_lit a) (node_at a p) ≡ true
      e = sym (lit_at w.chain p l.isterm) ∙ l.islit

      go : (b : Bool) → leb (kind_at a p) 21 ≡ b → kind_at a p ≤ 21
      go true q = leb-true (kind_at a p) 21 q
      go false q =
          let h = leb-false (kind_at a p) 21 q in
          t≢f (sym e ∙ rw (lt-leb (kind_at a p) 18 (omega arith), q))

  lit_args : (p k : ℕ) → kind_at a p ≡ k → 19 ≤ k → Literal p → all (is_lit a) (args (N k p)) ≡ true
  unfolding ruled lit_rule
  lit_args p k e h l =
      let j = lit_kind p l in
      let f : ruled lit_rule a (is_lit a) (N k p) ≡ true = sym (lit_at w.chain p l.isterm ∙ ap (λ (n : Node). ruled lit_rule a (is_lit a) n) (node-kind a p k e)) ∙ l.islit in
      rw (lt-leb k 18 (omega arith), le-leb k 21 (omega arith), ruled) at f

  term-args : (p k : ℕ) → kind_at a p ≡ k → 16 ≤ k → all (is_term a) (args (N k p)) ≡ true
  term-args p k e h = (placed-term a (N k p) h (good_kind w p k e (omega arith))).1

  low_args : (p k : ℕ) → kind_at a p ≡ k → is_term a p ≡ true → all (λ x. ltb x p) (args (N k p)) ≡ true
  low_args p k e t = subst (λ (n : Node). all (λ x. ltb x p) (args n) ≡ true) (node-kind a p k e) (args-below w.chain p (term_pos a p t))

  pub value-kind : (p : ℕ) → Literal p → val_kind (M p) ≡ kind_at a p
  unfolding val_kind mean_node term maker_means positions keys
  value-kind p l =
      let t = l.isterm in
      six (kind_at a p) (term-kind a p t) (lit_kind p l)
      (λ e. ap val_kind (mean_kind I w.chain p 16 e t) ∙ sym e)
      (λ e. ap val_kind (mean_kind I w.chain p 17 e t) ∙ sym e)
      (λ e. ap val_kind (mean_kind I w.chain p 18 e t) ∙ sym e)
      (λ e. ap val_kind (mean_kind I w.chain p 19 e t) ∙ sym e)
      (λ e. ap val_kind (mean_kind I w.chain p 20 e t) ∙ sym e)
      (λ e. ap val_kind (mean_kind I w.chain p 21 e t) ∙ sym e)

  -- the two are one where kind, type, parameter and members are
  one : (p q k : ℕ) → is_term a p ≡ true → kind_at a p ≡ k → kind_at a q ≡ k → type_at a p ≡ type_at a q → par_at a p ≡ par_at a q → mem_at a p ≡ mem_at a q → p ≡ q
  one p q k t e f g h i =
      unique w.chain p q (let z = term-kind a p t in omega arith)
      (λ j. record { kind = (e ∙ sym f) j; type = g j; par = h j; mem = i j })

  bit_eq : (m n : ℕ) → m ≤ 1 → n ≤ 1 → eqb m 1 ≡ eqb n 1 → m ≡ n
  bit_eq m n h k e = go (eqb m 1) refl (eqb n 1) refl
    where
      go : (x : Bool) → eqb m 1 ≡ x → (y : Bool) → eqb n 1 ≡ y → m ≡ n
      go true p true q = eqb-true m 1 p ∙ sym (eqb-true n 1 q)
      go true p false q = t≢f (sym p ∙ e ∙ q)
      go false p true q = t≢f (sym q ∙ sym e ∙ p)
      go false p false q = let x = eqb-false m 1 p in let y = eqb-false n 1 q in omega arith

  record Pair (p q : ℕ) : Type 0 where
    left : Literal p
    right : Literal q
    types : type_at a p ≡ type_at a q

  module _ (b : ℕ) (ih : (p q : ℕ) → p < b → Pair p q → M p ≡ M q → p ≡ q) (p q : ℕ) (p≤b : p ≤ b) (l : Pair p q) (e : M p ≡ M q) where
    tp : is_term a p ≡ true
    tp = l.left.isterm

    tq : is_term a q ≡ true
    tq = l.right.isterm

    kinds : kind_at a p ≡ kind_at a q
    kinds = sym (value-kind p l.left) ∙ ap val_kind e ∙ value-kind q l.right

    both : (k : ℕ) → kind_at a p ≡ k → mean_node I a (meaning I a) (N k p) ≡ mean_node I a (meaning I a) (N k q)
    both k h = sym (mean_kind I w.chain p k h tp) ∙ e ∙ mean_kind I w.chain q k (sym kinds ∙ h) tq

    case16 : kind_at a p ≡ 16 → p ≡ q
    unfolding maker_test mean_node term maker_means positions keys
    case16 h =
        let h' = sym kinds ∙ h in
        let x = every-all _ (maker_test_lem w p 16 h (omega arith) (omega arith)) in
        let y = every-all _ (maker_test_lem w q 16 h' (omega arith) (omega arith)) in
        let v : bool (eqb (par_at a p) 1) ≡ bool (eqb (par_at a q) 1) = both 16 h in
        let u : eqb (par_at a p) 1 ≡ eqb (par_at a q) 1 = cc in
        one p q 16 tp h h' l.types (bit_eq (par_at a p) (par_at a q) (leb-true _ _ x.1.0) (leb-true _ _ y.1.0) u)
        (mem0 _ (eqb-true _ _ x.0) ∙ sym (mem0 _ (eqb-true _ _ y.0)))

    case17 : kind_at a p ≡ 17 → p ≡ q
    unfolding maker_test mean_node term maker_means positions keys
    case17 h =
        let h' = sym kinds ∙ h in
        let x = every-all _ (maker_test_lem w p 17 h (omega arith) (omega arith)) in
        let y = every-all _ (maker_test_lem w q 17 h' (omega arith) (omega arith)) in
        let v : bits (par_at a p) ≡ bits (par_at a q) = both 17 h in
        one p q 17 tp h h' l.types (cc) (mem0 _ (eqb-true _ _ x.0) ∙ sym (mem0 _ (eqb-true _ _ y.0)))

    case18 : kind_at a p ≡ 18 → p ≡ q
    unfolding maker_test
    case18 h =
        let h' = sym kinds ∙ h in
        let x = every-all _ (maker_test_lem w p 18 h (omega arith) (omega arith)) in
        let y = every-all _ (maker_test_lem w q 18 h' (omega arith) (omega arith)) in
        one p q 18 tp h h' l.types (eqb-true _ _ x.1.0 ∙ sym (eqb-true _ _ y.1.0)) (mem0 _ (eqb-true _ _ x.0) ∙ sym (mem0 _ (eqb-true _ _ y.0)))

    -- two members, of one type each way
    member : (k x y : ℕ) → kind_at a p ≡ k → 19 ≤ k → mem? x (args (N k p)) ≡ true → mem? y (args (N k q)) ≡ true → type_at a x ≡ type_at a y → M x ≡ M y → x ≡ y
    member k x y h j i i' t v =
        let h' = sym kinds ∙ h in
        let low = ltb-true x p (all-mem (λ x. ltb x p) x (args (N k p)) (low_args p k h tp) i) in
        ih x y (omega arith)
        (record {
          left = record { isterm = all-mem (is_term a) x (args (N k p)) (term-args p k h (omega arith)) i; islit = all-mem (is_lit a) x (args (N k p)) (lit_args p k h j l.left) i };
          right = record { isterm = all-mem (is_term a) y (args (N k q)) (term-args q k h' (omega arith)) i'; islit = all-mem (is_lit a) y (args (N k q)) (lit_args q k h' j l.right) i' };
          types = t;
        }) v

    case19 : kind_at a p ≡ 19 → p ≡ q
    unfolding maker_test mean_node term maker_means positions keys
    case19 h =
        let h' = sym kinds ∙ h in
        let x = every-all _ (maker_test_lem w p 19 h (omega arith) (omega arith)) in
        let y = every-all _ (maker_test_lem w q 19 h' (omega arith) (omega arith)) in
        let mp : mem_at a p ≡ arg_at a p 0 ∷ [] = mem1 _ (eqb-true _ _ x.0) in
        let mq : mem_at a q ≡ arg_at a q 0 ∷ [] = mem1 _ (eqb-true _ _ y.0) in
        let v : vsome (M (arg_at a p 0)) ≡ vsome (M (arg_at a q 0)) =
        ap (λ (r : List ℕ). vsome (get_or (map (meaning I a) r) 0 vnone)) (sym mp) ∙ both 19 h ∙ ap (λ (r : List ℕ). vsome (get_or (map (meaning I a) r) 0 vnone)) mq in
        let u : M (arg_at a p 0) ≡ M (arg_at a q 0) = cc in
        let i : arg_at a p 0 ≡ arg_at a q 0 =
        member 19 (arg_at a p 0) (arg_at a q 0) h (omega arith)
        (subst (λ (r : List ℕ). mem? (arg_at a p 0) r ≡ true) (sym mp) (mem-here (arg_at a p 0) []))
        (subst (λ (r : List ℕ). mem? (arg_at a q 0) r ≡ true) (sym mq) (mem-here (arg_at a q 0) []))
        (eqb-true _ _ x.1.1.1.0 ∙ ap (λ (t : ℕ). arg_at a t 0) l.types ∙ sym (eqb-true _ _ y.1.1.1.0)) u in
        one p q 19 tp h h' l.types (eqb-true _ _ x.1.0 ∙ sym (eqb-true _ _ y.1.0)) (mp ∙ ap (λ (z : ℕ). z ∷ []) i ∙ sym mq)

    case20 : kind_at a p ≡ 20 → p ≡ q
    unfolding maker_test mean_node term maker_means positions keys
    case20 h =
        let h' = sym kinds ∙ h in
        let x = every-all _ (maker_test_lem w p 20 h (omega arith) (omega arith)) in
        let y = every-all _ (maker_test_lem w q 20 h' (omega arith) (omega arith)) in
        let v : vset (set_v (map (meaning I a) (mem_at a p))) ≡ vset (set_v (map (meaning I a) (mem_at a q))) = both 20 h in
        let u : set_v (map (meaning I a) (mem_at a p)) ≡ set_v (map (meaning I a) (mem_at a q)) = cc in
        let ty : (z z' : ℕ) → mem? z (mem_at a p) ≡ true → mem? z' (mem_at a q) ≡ true → type_at a z ≡ type_at a z' =
        λ z z' i i'. eqb-true _ _ (all-mem (λ x. eqb (type_at a x) (arg_at a (type_at a p) 0)) z (mem_at a p) x.1.1.1.1.0 i)
        ∙ ap (λ (t : ℕ). arg_at a t 0) l.types
        ∙ sym (eqb-true _ _ (all-mem (λ x. eqb (type_at a x) (arg_at a (type_at a q) 0)) z' (mem_at a q) y.1.1.1.1.0 i')) in
        let into : In (mem_at a p) (mem_at a q) =
        λ z i.
        let f = any-find (λ x. eq_v (M z) (M x)) (mem_at a q)
        (sym (set_mem (meaning I a) (M z) (mem_at a q)) ∙ ap (mem_v (M z)) (sym u) ∙ set_mem (meaning I a) (M z) (mem_at a p) ∙ mem-any (λ x. eq_v (M z) (M x)) z (mem_at a p) i (eq_v_refl (M z))) in
        subst (λ (n : ℕ). mem? n (mem_at a q) ≡ true) (sym (member 20 z f.0 h (omega arith) i f.1 (ty z f.0 i f.1) (eq_v_eq (M z) (M f.0) f.2))) f.1 in
        let back : In (mem_at a q) (mem_at a p) =
        λ z i.
        let f = any-find (λ x. eq_v (M z) (M x)) (mem_at a p)
        (sym (set_mem (meaning I a) (M z) (mem_at a p)) ∙ ap (mem_v (M z)) u ∙ set_mem (meaning I a) (M z) (mem_at a q) ∙ mem-any (λ x. eq_v (M z) (M x)) z (mem_at a q) i (eq_v_refl (M z))) in
        subst (λ (n : ℕ). mem? n (mem_at a p) ≡ true) (member 20 f.0 z h (omega arith) f.1 i (ty f.0 z f.1 i) (sym (eq_v_eq (M z) (M f.0) f.2))) f.1 in
        one p q 20 tp h h' l.types (eqb-true _ _ x.1.0 ∙ sym (eqb-true _ _ y.1.0)) (rise_ext (mem_at a p) (mem_at a q) x.1.1.1.0 y.1.1.1.0 into back)

    -- fields of one record type, with equal values, are equal
    fields : (r s : List ℕ) → length r % 2 ≡ 0 → length s % 2 ≡ 0 → field_types a r ≡ field_types a s
        → rec_v (evens r) (map (meaning I a) (odds r)) ≡ rec_v (evens s) (map (meaning I a) (odds s))
        → ((x y : ℕ) → mem? x (odds r) ≡ true → mem? y (odds s) ≡ true → type_at a x ≡ type_at a y → M x ≡ M y → x ≡ y) → r ≡ s
    unfolding field_types evens odds rec_v
    fields [] [] m n t v f = refl
    fields [] (y ∷ []) m n t v f = absurd (omega arith)
    fields [] (y ∷ y' ∷ s) m n t v f = let z : ◌≡◌ {A = ℕ} 0 1 = cc in absurd (omega arith)
    fields (x ∷ []) s m n t v f = absurd (omega arith)
    fields (x ∷ x' ∷ r) [] m n t v f = let z : ◌≡◌ {A = ℕ} 0 1 = cc in absurd (omega arith)
    fields (x ∷ x' ∷ r) (y ∷ []) m n t v f = absurd (omega arith)
    fields (x ∷ x' ∷ r) (y ∷ y' ∷ s) m n t v f =
        let k : x ≡ y = cc in
        let t' : type_at a x' ≡ type_at a y' = cc in
        let v' : M x' ≡ M y' = cc in
        let tt' : field_types a r ≡ field_types a s = cc in
        let vv' : rec_v (evens r) (map (meaning I a) (odds r)) ≡ rec_v (evens s) (map (meaning I a) (odds s)) = cc in
        let i = f x' y' (mem-here x' (odds r)) (mem-here y' (odds s)) t' v' in
        let j = fields r s (omega arith) (omega arith) tt' vv' (λ z z' p q. f z z' (mem-there z x' (odds r) p) (mem-there z' y' (odds s) q)) in
        cc

    case21 : kind_at a p ≡ 21 → p ≡ q
    unfolding maker_test field_run mean_node term maker_means positions keys
    case21 h =
        let h' = sym kinds ∙ h in
        let x = every-all _ (maker_test_lem w p 21 h (omega arith) (omega arith)) in
        let y = every-all _ (maker_test_lem w q 21 h' (omega arith) (omega arith)) in
        let v : vrec (rec_v (evens (mem_at a p)) (map (meaning I a) (odds (mem_at a p)))) ≡ vrec (rec_v (evens (mem_at a q)) (map (meaning I a) (odds (mem_at a q)))) = both 21 h in
        let u : rec_v (evens (mem_at a p)) (map (meaning I a) (odds (mem_at a p))) ≡ rec_v (evens (mem_at a q)) (map (meaning I a) (odds (mem_at a q))) = cc in
        let ts : field_types a (mem_at a p) ≡ field_types a (mem_at a q) =
        sym (same_list_lem (mem_at a (type_at a p)) (field_types a (mem_at a p)) x.1.1.1.0)
        ∙ ap (mem_at a) l.types
        ∙ same_list_lem (mem_at a (type_at a q)) (field_types a (mem_at a q)) y.1.1.1.0 in
        one p q 21 tp h h' l.types (eqb-true _ _ x.1.0 ∙ sym (eqb-true _ _ y.1.0))
        (fields (mem_at a p) (mem_at a q) (eqb-true (length (mem_at a p) % 2) 0 (every-all _ x.0).0) (eqb-true (length (mem_at a q) % 2) 0 (every-all _ y.0).0) ts u
        (λ z z' i i' t v. member 21 z z' h (omega arith) i i' t v))

    step : p ≡ q
    step = six (kind_at a p) (term-kind a p tp) (lit_kind p l.left) case16 case17 case18 case19 case20 case21

  canon_to : (b p q : ℕ) → p < b → Pair p q → M p ≡ M q → p ≡ q
  canon_to zero p q h l e = absurd (omega arith)
  canon_to (suc b) p q h l e = step b (λ p q h l e. canon_to b p q h l e) p q (omega arith) l e

-- literals of one type at two positions mean two values
pub canon : (I : Interp) {a : Nodes} → WF a → (p q : ℕ) → is_term a p ≡ true → is_term a q ≡ true → is_lit a p ≡ true → is_lit a q ≡ true
    → type_at a p ≡ type_at a q → meaning I a p ≡ meaning I a q → p ≡ q
canon I w p q tp tq lp lq t e =
    canon_to I w (suc p) p q (omega arith) (record { left = record { isterm = tp; islit = lp }; right = record { isterm = tq; islit = lq }; types = t }) e
