use Rattle.table.specs.Call.{count_ok}
use Rattle.refusals.proofs.count_ok.Goals as goal

pub returns-in-Fixed : goal.returns-in-Fixed
unfolding count_ok
returns-in-Fixed c = cc

pub returns-in-Pairs : goal.returns-in-Pairs
unfolding count_ok
returns-in-Pairs c = cc

pub returns-in-Run : goal.returns-in-Run
unfolding count_ok
returns-in-Run c = cc
