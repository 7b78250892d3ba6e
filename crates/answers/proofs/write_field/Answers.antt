use Rattle.answers.proofs.Answers.{puts_field}
use Rattle.answers.proofs.write_field.Goals as goal

pub returns : goal.returns
returns c =
    puts_field c.ranges.n.fits c.requires c.write_bytes-behind.ensures c.write_decimal.ensures
