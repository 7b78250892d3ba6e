use Rattle.table.proofs.Numbers.{known-top, from_core, from_bitvectors, from_helpers, from_compiled}
use Rattle.refusals.proofs.Suited.wrong_type.Goals as goal

pub wrong_in_core-requires : goal.wrong_in_core-requires
wrong_in_core-requires c =
    (from_core _ c.args.self.now.known c.if-self-le16.false, c.if-self-le26.true)

pub wrong_in_bitvectors-requires : goal.wrong_in_bitvectors-requires
wrong_in_bitvectors-requires c =
    (from_bitvectors _ c.args.self.now.known c.if-self-le26.false, c.if-self-le49.true)

pub wrong_in_helpers-requires : goal.wrong_in_helpers-requires
wrong_in_helpers-requires c =
    (from_helpers _ c.args.self.now.known c.if-self-le56.false, c.if-self-le66.true)

pub wrong_in_compiled-requires : goal.wrong_in_compiled-requires
wrong_in_compiled-requires c =
    (from_compiled _ c.args.self.now.known c.if-self-le66.false, known-top _ c.args.self.now.known)
