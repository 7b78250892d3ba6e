-- Finding or adding a node: the arena grows by that node or not at all, and the node stands at the answer.
use mathlib.Core.Path.{◌≡◌, refl, sym, ap, ◌∙◌, subst}
use Prim.Native.Nat.{ℕ, ◌≤◌, ◌<◌}
use native.Mathlib.Omega.{arith}
use mathlib.Core.Bool.{Bool, true, false}
use mathlib.Core.Option.{Option, none, some}
use mathlib.Core.List.{[], ◌∷◌}
use lib.Dec.{eqb}
use borrow.Author.Tests.{eq-eqb, eqb-true, eqb-false}
use Rattle.arena.specs.Nodes.{Node, Nodes, mark, node_at, kind_at, same, find, Out, out, put_found, put}
use Rattle.arena.specs.WellFormed.{good_node}
use Rattle.arena.proofs.Bools.{t≢f, none≢some, every-all, all-every}
use Rattle.arena.proofs.Runs.{same_list_lem, same_refl}
use Rattle.arena.proofs.Ext.{Ext, ext_same, ext_one, mark_more, node_new, node_old, node_eq}
use Rattle.arena.proofs.Chain.{Chain, nil, link, WF, wf_ext, no_node}

pub same-node : (m n : Node) → same m n ≡ true → m ≡ n
unfolding same
same-node m n e =
    let w = every-all _ e in
    sym (node_eq m (eqb-true m.kind n.kind w.0) (eqb-true m.type n.type w.1.0) (eqb-true m.par n.par w.1.1.0) (same_list_lem m.mem n.mem w.1.1.1.0))

pub same_self : (n : Node) → same n n ≡ true
unfolding same
same_self n = all-every _ (eq-eqb n.kind n.kind refl, (eq-eqb n.type n.type refl, (eq-eqb n.par n.par refl, (same_refl n.mem, tt))))

-- what is found stands there
pub find_sound : (a : Nodes) (n : Node) (p : ℕ) → find a n ≡ some p → (p < mark a) × (node_at a p ≡ n)
unfolding find
find_sound [] n p e = none≢some e
find_sound (m ∷ a) n p e = go (λ h. find_sound a n p h) (same m n) refl
  where
    go : (find a n ≡ some p → (p < mark a) × (node_at a p ≡ n)) → (b : Bool) → same m n ≡ b → (p < mark (m ∷ a)) × (node_at (m ∷ a) p ≡ n)
    go ih true q =
        let f : some (mark a) ≡ some p = rw (q, find) at e in
        let g : mark a ≡ p = cc in
        let k = mark_more m a in
        (omega arith, node_new m a p (sym g) ∙ same-node m n q)
    go ih false q =
        let f : find a n ≡ some p = rw (q, find) at e in
        let r = ih f in let l = r.0 in let k = mark_more m a in
        (omega arith, node_old m a p (λ z. omega arith) ∙ r.1)

-- what stands there is found
pub find_complete : (a : Nodes) (p : ℕ) → 1 ≤ kind_at a p → find a (node_at a p) ≡ none → ⊥
unfolding find
find_complete [] p h e = no_node p h
find_complete (m ∷ a) p h e = go (λ k f. find_complete a p k f) (eqb p (mark a)) refl (same m (node_at (m ∷ a) p)) refl
  where
    go : (1 ≤ kind_at a p → find a (node_at a p) ≡ none → ⊥)
        → (b : Bool) → eqb p (mark a) ≡ b → (s : Bool) → same m (node_at (m ∷ a) p) ≡ s → ⊥
    go ih b q true s =
        let f : some (mark a) ≡ none = rw (s, find) at e in
        none≢some (sym f)
    go ih true q false s =
        t≢f (sym (same_self m) ∙ subst (λ (n : Node). same m n ≡ false) (node_new m a p (eqb-true p (mark a) q)) s)
    go ih false q false s =
        let o = node_old m a p (eqb-false p (mark a) q) in
        let f : find a (node_at (m ∷ a) p) ≡ none = rw (s, find) at e in
        ih (subst (λ (n : Node). 1 ≤ n.kind) o h) (subst (λ (n : Node). find a n ≡ none) o f)

-- equal nodes are one position
pub unique : {a : Nodes} → Chain a → (p q : ℕ) → 1 ≤ kind_at a p → node_at a p ≡ node_at a q → p ≡ q
unique nil p q h e = no_node p h
unique (link {a = a} {n = n} c g f) p q h e = go (λ h e. unique c p q h e) (eqb p (mark a)) refl (eqb q (mark a)) refl
  where
    -- the newest node is not in the older arena
    no : (p q : ℕ) → 1 ≤ kind_at (n ∷ a) p → node_at (n ∷ a) p ≡ node_at (n ∷ a) q → p ≡ mark a → (q ≡ mark a → ⊥) → ⊥
    no p q h e i j =
        let x : node_at a q ≡ n = sym (node_old n a q j) ∙ sym e ∙ node_new n a p i in
        find_complete a q (subst (λ (m : Node). 1 ≤ m.kind) (sym x) (subst (λ (m : Node). 1 ≤ m.kind) (node_new n a p i) h)) (subst (λ (m : Node). find a m ≡ none) (sym x) f)

    go : (1 ≤ kind_at a p → node_at a p ≡ node_at a q → p ≡ q)
        → (b : Bool) → eqb p (mark a) ≡ b → (d : Bool) → eqb q (mark a) ≡ d → p ≡ q
    go ih true i true j = eqb-true p (mark a) i ∙ sym (eqb-true q (mark a) j)
    go ih true i false j = absurd (no p q h e (eqb-true p (mark a) i) (eqb-false q (mark a) j))
    go ih false i true j = absurd (no q p (subst (λ (m : Node). 1 ≤ m.kind) e h) (sym e) (eqb-true q (mark a) j) (eqb-false p (mark a) i))
    go ih false i false j =
        let x = node_old n a p (eqb-false p (mark a) i) in
        let y = node_old n a q (eqb-false q (mark a) j) in
        ih (subst (λ (m : Node). 1 ≤ m.kind) x h) (sym x ∙ e ∙ y)

-- a node that stands at p is found at p
pub find_at : {a : Nodes} → Chain a → (n : Node) (p : ℕ) → 1 ≤ n.kind → node_at a p ≡ n → find a n ≡ some p
find_at {a} c n p h e = go (find a n) refl
  where
    pos : 1 ≤ kind_at a p
    pos = subst (λ (m : Node). 1 ≤ m.kind) (sym e) h

    go : (f : Option ℕ) → find a n ≡ f → find a n ≡ some p
    go none z = absurd (find_complete a p pos (ap (find a) e ∙ z))
    go (some r) z = z ∙ ap some (sym (unique c p r pos (e ∙ sym (find_sound a n r z).1)))

-- ---- found or added

pub record Put (a : Nodes) (n : Node) (o : Out) : Type 0 where
  pub ext : Ext a o.arena
  pub chain : Chain o.arena
  pub there : node_at o.arena o.at ≡ n

-- adding a good node keeps the arena well formed
pub put_law : {a : Nodes} → Chain a → (n : Node) → good_node a n ≡ true → Put a n (put a n)
unfolding put put_found
put_law {a} c n g = go (find a n) refl
  where
    go : (f : Option ℕ) → find a n ≡ f → Put a n (put_found a n f)
    go (some p) e = record { ext = ext_same; chain = c; there = (find_sound a n p e).1 }
    go none e = record { ext = ext_one; chain = link c g e; there = node_new n a (mark a) refl }

pub put_wf : {a : Nodes} → WF a → (n : Node) → good_node a n ≡ true → WF (put a n).arena
put_wf w n g = let p = put_law w.chain n g in wf_ext w p.ext p.chain

pub put_found_lem : (a : Nodes) (n : Node) (p : ℕ) → find a n ≡ some p → put a n ≡ out a p
unfolding put put_found
put_found_lem a n p e = rw (e, put)

pub put_added : (a : Nodes) (n : Node) → find a n ≡ none → put a n ≡ out (n ∷ a) (mark a)
unfolding put put_found
put_added a n e = rw (e, put)
