use Rattle.answers.proofs.Answers.{puts_refused}
use Rattle.answers.proofs.write_refused.Goals as goal

pub returns : goal.returns
returns c =
    puts_refused c.args.number c.ranges.number.fits c.requires c.write_field-a.ensures c.write_bytes.ensures
