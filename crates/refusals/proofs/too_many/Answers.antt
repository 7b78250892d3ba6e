use Rattle.table.specs.Call.{too_many}
use Rattle.refusals.proofs.too_many.Goals as goal

pub returns-in-Fixed : goal.returns-in-Fixed
unfolding too_many
returns-in-Fixed c = cc

pub returns-in-Pairs : goal.returns-in-Pairs
unfolding too_many
returns-in-Pairs c = cc

pub returns-in-Run : goal.returns-in-Run
unfolding too_many
returns-in-Run c = cc
