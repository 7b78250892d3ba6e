use native.Mathlib.Omega.{arith}
use Rattle.arena.specs.View.{nodes_of}
use Rattle.table.proofs.Numbers.{five_bitvectors}
use Rattle.table.proofs.Suits.{plain-terms}
use Rattle.refusals.proofs.Suited.wrong_in_bitvectors.Goals as goal

pub first_misfits-requires : goal.first_misfits-requires
first_misfits-requires c =
    plain-terms _ c.requires.0 (omega arith) c.args.self.now.suited

pub returns-then-self : goal.returns-then-self
returns-then-self c =
    rw (five_bitvectors (nodes_of c.args.self.now.nodes) c.args.self.now.xs.now c.args.self.now.op c.requires.0 c.requires.1, c.if-self.true) c.first_misfits.ensures

pub not_alike-requires : goal.not_alike-requires
not_alike-requires c =
    plain-terms _ c.requires.0 (omega arith) c.args.self.now.suited

pub returns : goal.returns
returns c =
    rw (five_bitvectors (nodes_of c.args.self.now.nodes) c.args.self.now.xs.now c.args.self.now.op c.requires.0 c.requires.1, c.if-self.false) c.not_alike.ensures
