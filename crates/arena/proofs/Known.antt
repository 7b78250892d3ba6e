-- A node whose kind is known: what its operands are, what it means, and when it is a literal.
use mathlib.Core.Path.{◌≡◌, refl, sym, ap, ◌∙◌}
use Prim.Native.Nat.{ℕ, ◌^◌, ◌≤◌, ◌<◌}
use native.Mathlib.Omega.{arith}
use mathlib.Core.Bool.{Bool, true, false, not, cond}
use mathlib.Core.Logic.{◌⊎◌, inl, inr}
use mathlib.Core.List.{List, map}
use lib.ListN.{length}
use lib.Dec.{eqb}
use borrow.Author.Tests.{eqb-true, eqb-false, leb-true, le-leb, ltb-true}
use Rattle.smtlib.specs.Theory.{bvneg}
use Rattle.arena.specs.Lists.{all, evens, odds, rising}
use Rattle.arena.specs.Nodes.{Node, node, Nodes, node_at, kind_at, type_at, par_at, mem_at, arg_at, elem_at, width_at, positions, keys, field_types, F, T}
use Rattle.arena.specs.Walks.{ruled, lit_rule, is_lit}
use Rattle.arena.specs.WellFormed.{field_run, is_term, maker_test, core_test, bv_test}
use Rattle.arena.specs.Values.{Value, bool, bits, vnone, vsome, vset, vrec, set_v, rec_v, as_bool, as_bits, fits, zero_of}
use Rattle.arena.specs.Meaning.{rec_ty, ty_of, ty_at, width, Interp, Good, maker_means, core_means, bv_means, term, mean_node, meaning}
use Rattle.arena.proofs.Bools.{and_l, every-all}
use Rattle.arena.proofs.Runs.{mem1, mem3, all_get, same_list_lem}
use Rattle.arena.proofs.Chain.{WF, placed-term, mean_at, lit_at}
use Rattle.arena.proofs.View.{Tm}
use Rattle.arena.proofs.Base.{false_tm, true_tm, false_means, true_means, false_lit, true_lit}
use Rattle.arena.proofs.Types.{ty_opt, ty_rec}
use Rattle.arena.proofs.Whole.{good_kind, maker_test_lem, core_test_lem, bv_test_lem, operand}
use Rattle.arena.proofs.Fits.{zero_fits, opt_fits, rec-fits}
use Rattle.arena.proofs.Sound.{fit_tm, bool_at_lem, bits_at, set_at}
use Rattle.arena.proofs.Canon.{val_kind, value-kind, canon}

-- the term at t is a literal
abbrev pub Lit : Nodes → ℕ → Type 0
Lit a t = is_lit a t ≡ true

-- the Bool that the term at t means
abbrev pub B : Interp → Nodes → ℕ → Bool
B I a t = as_bool (meaning I a t)

-- ---- with the kind and the members written

module _ {a : Nodes} (w : WF a) (p : ℕ) {k : ℕ} {ms : List ℕ} (e : kind_at a p ≡ k) (m : mem_at a p ≡ ms) (h : 16 ≤ k) where
  pub node_as : node_at a p ≡ node k (type_at a p) (par_at a p) ms
  node_as = λ j. record { kind = e j; type = type_at a p; par = par_at a p; mem = m j }

  pub is_term_lem : is_term a p ≡ true
  is_term_lem = le-leb 16 (kind_at a p) (omega arith)

  pub mean_as : (I : Interp) → meaning I a p ≡ mean_node I a (meaning I a) (node k (type_at a p) (par_at a p) ms)
  mean_as I = mean_at I w.chain p is_term_lem ∙ ap (λ (n : Node). mean_node I a (meaning I a) n) node_as

  pub lit_as : is_lit a p ≡ ruled lit_rule a (is_lit a) (node k (type_at a p) (par_at a p) ms)
  lit_as = lit_at w.chain p is_term_lem ∙ ap (λ (n : Node). ruled lit_rule a (is_lit a) n) node_as

-- ---- literals of bitvectors, None and Some

pub record BvNode (a : Nodes) (p : ℕ) : Type 0 where
  pub bv : kind_at a (type_at a p) ≡ 2
  pub below : par_at a p < 2 ^ width_at a p
  pub means : (I : Interp) → meaning I a p ≡ bits (par_at a p)

pub bv_node : {a : Nodes} → WF a → (p : ℕ) → kind_at a p ≡ 17 → BvNode a p
unfolding maker_test mean_node term maker_means
bv_node {a} w p e =
    let h = every-all _ (maker_test_lem w p 17 e (omega arith) (omega arith)) in
    record { bv = eqb-true _ _ h.1.0; below = ltb-true _ _ h.1.1.0; means = mean_as w p e refl (omega arith) }

pub none_means : (I : Interp) {a : Nodes} → WF a → (p : ℕ) → kind_at a p ≡ 18 → meaning I a p ≡ vnone
unfolding mean_node term maker_means
none_means I w p e = mean_as w p e refl (omega arith) I

pub record SomeNode (a : Nodes) (p : ℕ) : Type 0 where
  pub opt : kind_at a (type_at a p) ≡ 3
  pub under : Tm a (elem_at a p) (arg_at a p 0)
  pub means : (I : Interp) → meaning I a p ≡ vsome (meaning I a (arg_at a p 0))
  pub lits : Lit a p → Lit a (arg_at a p 0)

pub some_node : {a : Nodes} → WF a → (p : ℕ) → kind_at a p ≡ 19 → SomeNode a p
unfolding maker_test mean_node term maker_means ruled lit_rule positions keys all
some_node {a} w p e =
    let h = every-all _ (maker_test_lem w p 19 e (omega arith) (omega arith)) in
    let l = eqb-true (length (mem_at a p)) 1 h.0 in
    let m = mem1 (mem_at a p) l in
    let ts = (placed-term a (node 19 (type_at a p) (par_at a p) (mem_at a p)) (omega arith) (good_kind w p 19 e (omega arith))).1 in
    record {
      opt = eqb-true _ _ h.1.1.0;
      under = record { isterm = all_get (is_term a) (mem_at a p) ts 0 (omega arith); typed = eqb-true _ _ h.1.1.1.0 };
      means = mean_as w p e m (omega arith);
      lits = λ x. and_l (is_lit a (arg_at a p 0)) true (sym (lit_as w p e m (omega arith)) ∙ x);
    }

-- ---- sets and records

pub record SetNode (a : Nodes) (p : ℕ) : Type 0 where
  pub set : kind_at a (type_at a p) ≡ 4
  pub rise : rising (mem_at a p) ≡ true
  pub few : length (mem_at a p) ≤ 256
  pub terms : all (is_term a) (mem_at a p) ≡ true
  pub types : all (λ x. eqb (type_at a x) (elem_at a p)) (mem_at a p) ≡ true
  pub means : (I : Interp) → meaning I a p ≡ vset (set_v (map (meaning I a) (mem_at a p)))
  pub lits : is_lit a p ≡ all (is_lit a) (mem_at a p)

pub set_node : {a : Nodes} → WF a → (p : ℕ) → kind_at a p ≡ 20 → SetNode a p
unfolding maker_test mean_node term maker_means ruled lit_rule positions keys
set_node {a} w p e =
    let h = every-all _ (maker_test_lem w p 20 e (omega arith) (omega arith)) in
    record {
      set = eqb-true _ _ h.1.1.0;
      rise = h.1.1.1.0;
      few = leb-true _ _ h.0;
      terms = (placed-term a (node 20 (type_at a p) (par_at a p) (mem_at a p)) (omega arith) (good_kind w p 20 e (omega arith))).1;
      types = h.1.1.1.1.0;
      means = mean_as w p e refl (omega arith);
      lits = lit_as w p e refl (omega arith);
    }

pub record RecNode (a : Nodes) (p : ℕ) : Type 0 where
  pub rec : kind_at a (type_at a p) ≡ 5
  pub run : field_run (mem_at a p) ≡ true
  pub terms : all (is_term a) (odds (mem_at a p)) ≡ true
  pub types : mem_at a (type_at a p) ≡ field_types a (mem_at a p)
  pub means : (I : Interp) → meaning I a p ≡ vrec (rec_v (evens (mem_at a p)) (map (meaning I a) (odds (mem_at a p))))
  pub lits : is_lit a p ≡ all (is_lit a) (odds (mem_at a p))

pub rec-node : {a : Nodes} → WF a → (p : ℕ) → kind_at a p ≡ 21 → RecNode a p
unfolding maker_test mean_node term maker_means ruled lit_rule positions keys
rec-node {a} w p e =
    let h = every-all _ (maker_test_lem w p 21 e (omega arith) (omega arith)) in
    record {
      rec = eqb-true _ _ h.1.1.0;
      run = h.0;
      terms = (placed-term a (node 21 (type_at a p) (par_at a p) (mem_at a p)) (omega arith) (good_kind w p 21 e (omega arith))).1;
      types = same_list_lem (mem_at a (type_at a p)) (field_types a (mem_at a p)) h.1.1.1.0;
      means = mean_as w p e refl (omega arith);
      lits = lit_as w p e refl (omega arith);
    }

-- ---- applications that the factory looks into: Not, ite, neg

pub record NotNode (a : Nodes) (p : ℕ) : Type 0 where
  pub under : Tm a 0 (arg_at a p 0)
  pub itself : Tm a 0 p
  pub means : (I : Interp) → meaning I a p ≡ bool (not (as_bool (meaning I a (arg_at a p 0))))

pub not_node : {a : Nodes} → WF a → (p : ℕ) → kind_at a p ≡ 120 → NotNode a p
unfolding core_test mean_node term core_means positions keys
not_node {a} w p e =
    let h = every-all _ (core_test_lem w p 120 e (omega arith) (omega arith)) in
    let l = eqb-true (length (mem_at a p)) 1 h.0 in
    let m = mem1 (mem_at a p) l in
    record {
      under = record { isterm = operand w p 120 e (omega arith) 0 (omega arith); typed = eqb-true _ _ h.1.1.1.0 };
      itself = record { isterm = is_term_lem w p e m (omega arith); typed = eqb-true _ _ h.1.1.0 };
      means = mean_as w p e m (omega arith);
    }

pub record IteNode (a : Nodes) (p : ℕ) : Type 0 where
  pub guard : Tm a 0 (arg_at a p 0)
  pub left : Tm a (type_at a p) (arg_at a p 1)
  pub right : Tm a (type_at a p) (arg_at a p 2)
  pub means : (I : Interp) → meaning I a p ≡ cond (as_bool (meaning I a (arg_at a p 0))) (meaning I a (arg_at a p 1)) (meaning I a (arg_at a p 2))

pub ite_node : {a : Nodes} → WF a → (p : ℕ) → kind_at a p ≡ 125 → IteNode a p
unfolding core_test mean_node term core_means positions keys
ite_node {a} w p e =
    let h = every-all _ (core_test_lem w p 125 e (omega arith) (omega arith)) in
    let l = eqb-true (length (mem_at a p)) 3 h.0 in
    let m = mem3 (mem_at a p) l in
    record {
      guard = record { isterm = operand w p 125 e (omega arith) 0 (omega arith); typed = eqb-true _ _ h.1.1.0 };
      left = record { isterm = operand w p 125 e (omega arith) 1 (omega arith); typed = eqb-true _ _ h.1.1.1.0 };
      right = record { isterm = operand w p 125 e (omega arith) 2 (omega arith); typed = eqb-true _ _ h.1.1.1.1.0 };
      means = mean_as w p e m (omega arith);
    }

pub record NegNode (a : Nodes) (p : ℕ) : Type 0 where
  pub bv : kind_at a (type_at a p) ≡ 2
  pub under : Tm a (type_at a p) (arg_at a p 0)
  pub means : (I : Interp) → meaning I a p ≡ bits (bvneg (width (ty_at a (arg_at a p 0))) (as_bits (meaning I a (arg_at a p 0))))

pub neg_node : {a : Nodes} → WF a → (p : ℕ) → kind_at a p ≡ 130 → NegNode a p
unfolding bv_test mean_node term bv_means positions keys
neg_node {a} w p e =
    let h = every-all _ (bv_test_lem w p 130 e (omega arith) (omega arith)) in
    let l = eqb-true (length (mem_at a p)) 1 h.0 in
    let m = mem1 (mem_at a p) l in
    record {
      bv = eqb-true _ _ h.1.1.0;
      under = record { isterm = operand w p 130 e (omega arith) 0 (omega arith); typed = eqb-true _ _ h.1.1.1.0 };
      means = mean_as w p e m (omega arith);
    }

-- ---- an interpretation: every variable and function is zero

unfoldable pub zero_i : Interp
zero_i = record { var = λ id t. zero_of t; fun = λ id t u v. zero_of u }

pub zero_g : Good zero_i
unfolding zero_i
zero_g = record { var-fits = λ id t. zero_fits t; fun-fits = λ id t u v h. zero_fits u }

-- ---- literals by type

-- a Bool literal is false or true
pub lit_bool : {a : Nodes} → WF a → (t : ℕ) → Tm a 0 t → Lit a t → (t ≡ F) ⊎ (t ≡ T)
lit_bool {a} w t m l = go (as_bool (meaning zero_i a t)) refl
  where
    go : (b : Bool) → as_bool (meaning zero_i a t) ≡ b → (t ≡ F) ⊎ (t ≡ T)
    go false e = inl (canon zero_i w t F m.isterm (false_tm w).isterm l (false_lit w) (m.typed ∙ sym (false_tm w).typed) (sym (bool_at_lem zero_i zero_g w t m) ∙ ap bool e ∙ sym (false_means zero_i w)))
    go true e = inr (canon zero_i w t T m.isterm (true_tm w).isterm l (true_lit w) (m.typed ∙ sym (true_tm w).typed) (sym (bool_at_lem zero_i zero_g w t m) ∙ ap bool e ∙ sym (true_means zero_i w)))

-- neither of the two tests says that a literal Bool is false or true
pub no_lit : {X : Type 0} {a : Nodes} → WF a → (t : ℕ) → Tm a 0 t → eqb t T ≡ false → eqb t F ≡ false → Lit a t → X
no_lit {X} w t m e f l = go (lit_bool w t m l)
  where
    go : (t ≡ F) ⊎ (t ≡ T) → X
    go (inl p) = absurd (eqb-false t F f p)
    go (inr p) = absurd (eqb-false t T e p)

module _ {a : Nodes} (w : WF a) (s t : ℕ) (m : Tm a s t) (l : Lit a t) where
  kind_of : {k : ℕ} → val_kind (meaning zero_i a t) ≡ k → kind_at a t ≡ k
  kind_of e = sym (value-kind zero_i w t (record { isterm = m.isterm; islit = l })) ∙ e

  -- a literal bitvector is kind 17, a literal set 20, a literal record 21, a literal option 18 or 19
  pub lit_bv : kind_at a s ≡ 2 → kind_at a t ≡ 17
  unfolding val_kind
  lit_bv h = kind_of (ap val_kind (sym (bits_at zero_i zero_g w s t h m).0))

  pub lit_set : kind_at a s ≡ 4 → kind_at a t ≡ 20
  unfolding val_kind
  lit_set h = kind_of (ap val_kind (sym (set_at zero_i zero_g w s t h m).form))

  pub lit_rec : kind_at a s ≡ 5 → kind_at a t ≡ 21
  unfolding val_kind
  lit_rec h = kind_of (ap val_kind (sym (rec-fits (rec_ty (evens (mem_at a s)) (map (ty_of a) (odds (mem_at a s)))) (meaning zero_i a t) (fit_tm zero_i zero_g w m (ty_rec w.chain s h))).0))

  pub lit_opt : kind_at a s ≡ 3 → (kind_at a t ≡ 18) ⊎ (kind_at a t ≡ 19)
  unfolding val_kind
  lit_opt h = go (opt_fits (ty_of a (arg_at a s 0)) (meaning zero_i a t) (fit_tm zero_i zero_g w m (ty_opt w.chain s h)))
    where
      go : (meaning zero_i a t ≡ vnone) ⊎ ((x : Value) × (meaning zero_i a t ≡ vsome x) × (fits (ty_of a (arg_at a s 0)) x ≡ true)) → (kind_at a t ≡ 18) ⊎ (kind_at a t ≡ 19)
      go (inl e) = inl (kind_of (ap val_kind e))
      go (inr e) = inr (kind_of (ap val_kind e.1))
