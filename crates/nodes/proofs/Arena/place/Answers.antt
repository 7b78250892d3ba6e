use mathlib.Core.Path.{refl, sym, ◌∙◌}
use native.Mathlib.Omega.{arith}
use Rattle.nodes.proofs.Placed.{place_found, place_full, place_added}
use Rattle.nodes.proofs.Arena.place.Goals as goal

pub returns-in-Some : goal.returns-in-Some
returns-in-Some c = place_found c.args.self.now c.requires _ (sym c.find.ensures ∙ c.in-Some.is)

pub returns-then-self-at : goal.returns-then-self-at
returns-then-self-at c = place_full c.args.self.now c.requires _ (sym c.find.ensures ∙ c.in_default.is) (omega arith)

pub returns : goal.returns
returns c = record { same = refl; did = place_added c.args.self.now c.requires _ (sym c.find.ensures ∙ c.in_default.is) (omega arith) c.add.ensures; stopped = λ e. absurd cc }
