use Rattle.table.specs.Call.{operands_ok}
use Rattle.refusals.proofs.operands_ok.Goals as goal

pub returns-in-Fixed : goal.returns-in-Fixed
unfolding operands_ok
returns-in-Fixed c = cc

pub returns-in-Pairs : goal.returns-in-Pairs
unfolding operands_ok
returns-in-Pairs c = cc

pub returns-in-Run : goal.returns-in-Run
unfolding operands_ok
returns-in-Run c = cc
