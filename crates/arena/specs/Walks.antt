-- The two tests that recurse over members, in one form: is a term a literal, is a type free of sets.
use Rattle.std.specs.Prelude.{ℕ, Bool, true, false, cond, eqb, leb}
use Rattle.arena.specs.Lists.{all}
use Rattle.arena.specs.Nodes.{Node, Nodes, over, args}

-- what a rule says of a kind: it passes, it fails, or its members are asked
pub data Verdict : Type 0 where
  pass fail ask : Verdict

abbrev pub said : Verdict → Bool → Bool
said pass b = true
said fail b = false
said ask b = b

unfoldable pub ruled : (ℕ → Verdict) → Nodes → (ℕ → Bool) → Node → Bool
ruled r a f n = said (r n.kind) (all f (args n))

unfoldable pub walked : (ℕ → Verdict) → Nodes → ℕ → Bool
walked r = over false (ruled r)

-- bool and bitvec literals and None are literals; Some, Set and Record where all their terms are
unfoldable pub lit_rule : ℕ → Verdict
lit_rule k = cond (leb k 18) (cond (leb 16 k) pass fail) (cond (leb k 21) ask fail)

abbrev pub is_lit : Nodes → ℕ → Bool
is_lit = walked lit_rule

-- no Set, at any depth
unfoldable pub free_rule : ℕ → Verdict
free_rule k = cond (eqb k 4) fail (cond (leb k 5) ask fail)

abbrev pub set_free : Nodes → ℕ → Bool
set_free = walked free_rule
