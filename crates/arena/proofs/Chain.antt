-- Well-formedness for induction: a chain of nodes, each good over the nodes before it and none of them twice.
use mathlib.Core.Path.{◌≡◌, refl, sym, ap, ◌∙◌, subst}
use Prim.Native.Nat.{ℕ, ◌≤◌, ◌<◌}
use native.Mathlib.Omega.{arith}
use mathlib.Core.Bool.{Bool, true, false}
use mathlib.Core.Option.{none}
use mathlib.Core.List.{[], ◌∷◌, map}
use lib.ListN.{length, get_or}
use lib.Dec.{eqb, leb, ltb}
use borrow.Author.Tests.{eqb-true, eqb-false, leb-true, leb-false, le-leb, lt-leb, lt-ltb, ltb-true}
use Rattle.arena.specs.Lists.{every, within, all}
use Rattle.arena.specs.Nodes.{Node, node, Nodes, mark, node_at, kind_at, type_at, par_at, mem_at, args, find, fresh}
use Rattle.arena.specs.Walks.{Verdict, said, ruled, walked, lit_rule, is_lit}
use Rattle.arena.specs.WellFormed.{is_type, is_term, placed, good_node}
use Rattle.arena.specs.Values.{vnone}
use Rattle.arena.specs.Meaning.{ty_of, ty_at, Interp, mean_node, meaning}
use Rattle.arena.proofs.Bools.{every-all, all-every}
use Rattle.arena.proofs.Runs.{all_get, all_imp, map_agree, all_agree}
use Rattle.arena.proofs.Ext.{Ext, ext_same, ext_more, ext_trans, ext_older, mark_nil, mark_more, over_new, node_new, node_old, node_ext, kind-known, node-kind, ty_ext, meaning_ext, walked_ext}

pub data Chain : Nodes → Type 0 where
  nil : Chain []
  link : {a : Nodes} {n : Node} → Chain a → good_node a n ≡ true → find a n ≡ none → Chain (n ∷ a)

pub record WF (a : Nodes) : Type 0 where
  pub base : Ext fresh a
  pub chain : Chain a

pub wf_ext : {a b : Nodes} → WF a → Ext a b → Chain b → WF b
wf_ext w e c = record { base = ext_trans w.base e; chain = c }

pub chain_older : {a b : Nodes} → Ext a b → Chain b → Chain a
chain_older ext_same c = c
chain_older (ext_more n e) (link c g f) = chain_older e c

pub link_is : {a : Nodes} {n : Node} → Chain (n ∷ a) → (good_node a n ≡ true) × (find a n ≡ none)
link_is (link c g f) = (g, f)

-- ---- a node by its place

-- what stands at a position where a node starts
pub record Place (a : Nodes) (p : ℕ) : Type 0 where
  pub older : Nodes
  pub ext : Ext (node_at a p ∷ older) a
  pub here : mark older ≡ p
  pub good : good_node older (node_at a p) ≡ true
  pub new : find older (node_at a p) ≡ none
  pub chain : Chain older

-- a node of the arena a, and where it stands
record Fine (a : Nodes) (p : ℕ) (m : Node) : Type 0 where
  f_older : Nodes
  f_ext : Ext (m ∷ f_older) a
  f_here : mark f_older ≡ p
  f_good : good_node f_older m ≡ true
  f_new : find f_older m ≡ none
  f_chain : Chain f_older

close : {a : Nodes} {p : ℕ} → Fine a p (node_at a p) → Place a p
close t = record { older = t.f_older; ext = t.f_ext; here = t.f_here; good = t.f_good; new = t.f_new; chain = t.f_chain }

pub no_node : {X : Type 0} (p : ℕ) → 1 ≤ kind_at [] p → X
no_node p h = let k = kind-known [] p h in let z = mark_nil in absurd (omega arith)

pub place : {a : Nodes} → Chain a → (p : ℕ) → 1 ≤ kind_at a p → Place a p
place nil p h = no_node p h
place (link {a = a} {n = n} c g f) p h = go (λ k. place c p k) (eqb p (mark a)) refl
  where
    go : (1 ≤ kind_at a p → Place a p) → (b : Bool) → eqb p (mark a) ≡ b → Place (n ∷ a) p
    go ih true e =
        let q = eqb-true p (mark a) e in
        close (subst (Fine (n ∷ a) p) (sym (node_new n a p q))
        (record { f_older = a; f_ext = ext_same; f_here = sym q; f_good = g; f_new = f; f_chain = c }))
    go ih false e =
        let q = node_old n a p (eqb-false p (mark a) e) in
        let r : Place a p = ih (subst (λ (m : Node). 1 ≤ m.kind) q h) in
        close (subst (Fine (n ∷ a) p) (sym q)
        (record { f_older = r.older; f_ext = ext_more n r.ext; f_here = r.here; f_good = r.good; f_new = r.new; f_chain = r.chain }))

pub place-below : {a : Nodes} {p : ℕ} (l : Place a p) → p < mark (node_at a p ∷ l.older)
place-below {a} {p} l = let m = mark_more (node_at a p) l.older in let q = l.here in omega arith

-- ---- sorts of positions

pub type-kind : (a : Nodes) (x : ℕ) → is_type a x ≡ true → (1 ≤ kind_at a x) × (kind_at a x ≤ 15)
type-kind a x e = let w = every-all _ e in (leb-true 1 (kind_at a x) w.0, leb-true (kind_at a x) 15 w.1.0)

pub kind-type : (a : Nodes) (t k : ℕ) → kind_at a t ≡ k → 1 ≤ k → k ≤ 15 → is_type a t ≡ true
kind-type a t k h l m = all-every _ (le-leb 1 (kind_at a t) (omega arith), (le-leb (kind_at a t) 15 (omega arith), tt))

pub type-below : (a : Nodes) (x : ℕ) → is_type a x ≡ true → x < mark a
type-below a x e = kind-known a x (type-kind a x e).0

pub term-kind : (a : Nodes) (x : ℕ) → is_term a x ≡ true → 16 ≤ kind_at a x
term-kind a x e = leb-true 16 (kind_at a x) e

pub term_pos : (a : Nodes) (x : ℕ) → is_term a x ≡ true → 1 ≤ kind_at a x
term_pos a x e = let h = term-kind a x e in omega arith

pub term-below : (a : Nodes) (x : ℕ) → is_term a x ≡ true → x < mark a
term-below a x e = kind-known a x (term_pos a x e)

pub type_ext : {o a : Nodes} → Ext o a → (x : ℕ) → is_type o x ≡ true → is_type a x ≡ true
type_ext {o} {a} e x k = subst (λ (n : Node). within 1 15 n.kind ≡ true) (sym (node_ext e x (type-below o x k))) k

pub term_ext : {o a : Nodes} → Ext o a → (x : ℕ) → is_term o x ≡ true → is_term a x ≡ true
term_ext {o} {a} e x k = subst (λ (n : Node). leb 16 n.kind ≡ true) (sym (node_ext e x (term-below o x k))) k

-- of a term node: its type is a type, its members are terms
pub placed-term : (o : Nodes) (n : Node) → 16 ≤ n.kind → good_node o n ≡ true → (is_type o n.type ≡ true) × (all (is_term o) (args n) ≡ true)
unfolding good_node placed
placed-term o n h e =
    let p : placed o n.kind n.type n.mem ≡ true = (every-all _ e).0 in
    let q : every (is_type o n.type ∷ all (is_term o) (args n) ∷ []) ≡ true = rw (lt-leb n.kind 15 h, placed) at p in
    let r = every-all _ q in (r.0, r.1.0)

-- of a type node: its type cell is 0, its members are types
pub placed-type : (o : Nodes) (n : Node) → n.kind ≤ 15 → good_node o n ≡ true → (n.type ≡ 0) × (all (is_type o) (args n) ≡ true)
unfolding good_node placed
placed-type o n h e =
    let p : placed o n.kind n.type n.mem ≡ true = (every-all _ e).0 in
    let q : every (eqb n.type 0 ∷ all (is_type o) (args n) ∷ []) ≡ true = rw (le-leb n.kind 15 h, placed) at p in
    let r = every-all _ q in (eqb-true _ _ r.0, r.1.0)

pub place-term : {a : Nodes} → Chain a → (x : ℕ) → is_term a x ≡ true → Place a x
place-term {a} c x k = place c x (term_pos a x k)

pub place-type : {a : Nodes} → Chain a → (x : ℕ) → is_type a x ≡ true → Place a x
place-type {a} c x k = place c x (type-kind a x k).0

-- a term's type is a type
pub term_type : {a : Nodes} → Chain a → (x : ℕ) → is_term a x ≡ true → is_type a (type_at a x) ≡ true
term_type {a} c x k =
    let pl = place-term c x k in
    type_ext (ext_older pl.ext) (type_at a x) (placed-term pl.older (node_at a x) (term-kind a x k) pl.good).0

-- ---- members stand lower

-- a node starts at x
abbrev pub starts : Nodes → ℕ → Bool
starts a x = leb 1 (kind_at a x)

pub start-below : (a : Nodes) (x : ℕ) → starts a x ≡ true → x < mark a
start-below a x k = kind-known a x (leb-true 1 (kind_at a x) k)

pub good_args : (o : Nodes) (n : Node) → good_node o n ≡ true → all (starts o) (args n) ≡ true
good_args o n g = go (leb n.kind 15) refl
  where
    go : (b : Bool) → leb n.kind 15 ≡ b → all (starts o) (args n) ≡ true
    go true e = all_imp (is_type o) (starts o) (λ x h. (every-all _ h).0) (args n) (placed-type o n (leb-true n.kind 15 e) g).1
    go false e =
        all_imp (is_term o) (starts o) (λ x h. le-leb 1 (kind_at o x) (term_pos o x h)) (args n) (placed-term o n (leb-false n.kind 15 e) g).1

pub args-below : {a : Nodes} → Chain a → (p : ℕ) → 1 ≤ kind_at a p → all (λ x. ltb x p) (args (node_at a p)) ≡ true
args-below {a} c p k =
    let pl = place c p k in
    let here = pl.here in
    all_imp (starts pl.older) (λ x. ltb x p) (λ x h. let z = start-below pl.older x h in lt-ltb x p (omega arith)) (args (node_at a p))
    (good_args pl.older (node_at a p) pl.good)

-- member i starts a node, and lower
pub arg_start : {a : Nodes} → Chain a → (p : ℕ) → 1 ≤ kind_at a p → (i : ℕ) → i < length (args (node_at a p))
    → (1 ≤ kind_at a (get_or (args (node_at a p)) i 0)) × (get_or (args (node_at a p)) i 0 < p)
arg_start {a} c p k i h =
    let pl = place c p k in
    let x = get_or (args (node_at a p)) i 0 in
    let s = all_get (starts pl.older) (args (node_at a p)) (good_args pl.older (node_at a p) pl.good) i h in (
      subst (λ (n : Node). 1 ≤ n.kind) (sym (node_ext (ext_older pl.ext) x (start-below pl.older x s))) (leb-true 1 (kind_at pl.older x) s),
      ltb-true x p (all_get (λ x. ltb x p) (args (node_at a p)) (args-below c p k) i h),
    )

-- and is of the right sort
pub term_arg : {a : Nodes} → Chain a → (p : ℕ) → is_term a p ≡ true → all (is_term a) (args (node_at a p)) ≡ true
term_arg {a} c p k =
    let pl = place-term c p k in
    all_imp (is_term pl.older) (is_term a) (λ x h. term_ext (ext_older pl.ext) x h) (args (node_at a p))
    (placed-term pl.older (node_at a p) (term-kind a p k) pl.good).1

pub type_arg : {a : Nodes} → Chain a → (p : ℕ) → is_type a p ≡ true → all (is_type a) (args (node_at a p)) ≡ true
type_arg {a} c p k =
    let pl = place-type c p k in
    all_imp (is_type pl.older) (is_type a) (λ x h. type_ext (ext_older pl.ext) x h) (args (node_at a p))
    (placed-type pl.older (node_at a p) (type-kind a p k).1 pl.good).1

-- ---- a term read off its node in the same arena

pub ty_at_ext : {o a : Nodes} → Chain o → Ext o a → (x : ℕ) → is_term o x ≡ true → ty_at a x ≡ ty_at o x
ty_at_ext {o} {a} c e x k =
    ap (λ (n : Node). ty_of a n.type) (node_ext e x (term-below o x k))
    ∙ ty_ext e (type_at o x) (type-below o (type_at o x) (term_type c x k))

-- a node reads the same in a longer arena
pub mean_node_ext : (I : Interp) {o a : Nodes} (n : Node) → Chain o → Ext o a → 16 ≤ n.kind → good_node o n ≡ true
    → mean_node I o (meaning I o) n ≡ mean_node I a (meaning I a) n
unfolding mean_node
mean_node_ext I {o} {a} n c e h g =
    let pt = placed-term o n h g in
    let t : ty_of o n.type ≡ ty_of a n.type = sym (ty_ext e n.type (type-below o n.type pt.0)) in
    let ts : map (ty_at o) (args n) ≡ map (ty_at a) (args n) =
    map_agree (is_term o) (ty_at o) (ty_at a) (λ x k. sym (ty_at_ext c e x k)) (args n) pt.1 in
    let vs : map (meaning I o) (args n) ≡ map (meaning I a) (args n) =
    map_agree (is_term o) (meaning I o) (meaning I a) (λ x k. sym (meaning_ext I e x (term-below o x k))) (args n) pt.1 in
    rw (t, ts, vs) refl

pub mean_at : (I : Interp) {a : Nodes} → Chain a → (p : ℕ) → is_term a p ≡ true → meaning I a p ≡ mean_node I a (meaning I a) (node_at a p)
unfolding meaning
mean_at I {a} c p k =
    let pl = place-term c p k in
    meaning_ext I pl.ext p (place-below pl)
    ∙ over_new vnone (mean_node I) (node_at a p) pl.older p (sym pl.here)
    ∙ mean_node_ext I (node_at a p) pl.chain (ext_older pl.ext) (term-kind a p k) pl.good

-- with the kind written
pub mean_kind : (I : Interp) {a : Nodes} → Chain a → (p k : ℕ) → kind_at a p ≡ k → is_term a p ≡ true
    → meaning I a p ≡ mean_node I a (meaning I a) (node k (type_at a p) (par_at a p) (mem_at a p))
mean_kind I {a} c p k e t = mean_at I c p t ∙ ap (λ (n : Node). mean_node I a (meaning I a) n) (node-kind a p k e)

-- ---- a walk read off a node

pub ruled_ext : (r : ℕ → Verdict) {o a : Nodes} (n : Node) → Ext o a → good_node o n ≡ true → ruled r o (walked r o) n ≡ ruled r a (walked r a) n
unfolding ruled
ruled_ext r {o} {a} n e g =
    ap (said (r n.kind)) (all_agree (starts o) (walked r o) (walked r a) (λ x k. sym (walked_ext r e x (start-below o x k))) (args n) (good_args o n g))

pub walked_at : (r : ℕ → Verdict) {a : Nodes} → Chain a → (p : ℕ) → 1 ≤ kind_at a p → walked r a p ≡ ruled r a (walked r a) (node_at a p)
unfolding walked
walked_at r {a} c p k =
    let pl = place c p k in
    walked_ext r pl.ext p (place-below pl)
    ∙ over_new false (ruled r) (node_at a p) pl.older p (sym pl.here)
    ∙ ruled_ext r (node_at a p) (ext_older pl.ext) pl.good

pub lit_at : {a : Nodes} → Chain a → (p : ℕ) → is_term a p ≡ true → is_lit a p ≡ ruled lit_rule a (is_lit a) (node_at a p)
lit_at {a} c p k = walked_at lit_rule c p (term_pos a p k)
