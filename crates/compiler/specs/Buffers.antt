-- What the steps on lists of fields leave in the buffers lent to them, and what the steps on a record's fields ask.
use Rattle.std.specs.Prelude.{◌≡◌, true, ℕ, List, Option, Some, None, Result, Ok, Err, ⊤}
use Rattle.std.proofs.Math.Option.{some}
use Rattle.arena.specs.Lists.{field, field_d}
use Rattle.arena.specs.Nodes.{Nodes, kind_at}
use Rattle.arena.specs.WellFormed.{small}
use Rattle.arena.specs.Runs.{Holds}
use Rattle.nodes.specs.declared.Full.{Full}
use Rattle.factory.specs.Fit.{OfKind}
use Rattle.compiler.specs.Compiler.{fields_at}

-- the answer of a step that has no position: 0 stands for one
abbrev pub fields_reply : Result ⊤ Full → Option ℕ
fields_reply (Ok u) = Some 0
fields_reply (Err e) = None

-- the first n numbers of b' are the run, unless there was no room
abbrev pub HoldsInner : List ℕ → List ℕ → ℕ → Result ⊤ Full → List ℕ → Type 0
HoldsInner run b n (Ok u) b' = Holds run b n b'
HoldsInner run b n (Err e) b' = Unit {0}

-- the term t is of a record type that has the attribute k
pub record HasField (a : Nodes) (k t : ℕ) : Type 0 where
  pub rec : OfKind a 5 t
  pub small : small k ≡ true
  pub there : field (fields_at a t) k ≡ some (field_d (fields_at a t) k)

-- and an Option there
pub record OptionalField (a : Nodes) (k t : ℕ) : Type 0 where
  pub has : HasField a k t
  pub option : kind_at a (field_d (fields_at a t) k) ≡ 3
