-- Listed terms in a longer arena.
use mathlib.Core.Path.{◌≡◌, ◌∙◌}
use Prim.Native.Nat.{ℕ}
use mathlib.Core.Bool.{true}
use mathlib.Core.List.{List, map}
use Rattle.arena.specs.Lists.{all}
use Rattle.arena.specs.Nodes.{Nodes}
use Rattle.arena.specs.Walks.{lit_rule, is_lit}
use Rattle.arena.specs.WellFormed.{is_term}
use Rattle.arena.specs.Meaning.{Interp, meaning}
use Rattle.arena.proofs.Runs.{map_agree, all_agree, all_imp}
use Rattle.arena.proofs.Ext.{Ext, meaning_ext, walked_ext}
use Rattle.arena.proofs.Chain.{term-below, term_ext}

module _ {a b : Nodes} (e : Ext a b) where
  pub means_old : (I : Interp) (r : List ℕ) → all (is_term a) r ≡ true → map (meaning I b) r ≡ map (meaning I a) r
  means_old I r p = map_agree (is_term a) (meaning I b) (meaning I a) (λ x h. meaning_ext I e x (term-below a x h)) r p

  pub lits_old : (r : List ℕ) → all (is_term a) r ≡ true → all (is_lit a) r ≡ true → all (is_lit b) r ≡ true
  lits_old r p l = all_agree (is_term a) (is_lit b) (is_lit a) (λ x h. walked_ext lit_rule e x (term-below a x h)) r p ∙ l

  pub terms_old : (r : List ℕ) → all (is_term a) r ≡ true → all (is_term b) r ≡ true
  terms_old r p = all_imp (is_term a) (is_term b) (λ x h. term_ext e x h) r p
