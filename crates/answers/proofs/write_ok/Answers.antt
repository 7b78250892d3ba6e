use Rattle.answers.proofs.Answers.{puts_ok}
use Rattle.answers.proofs.write_ok.Goals as goal

pub returns : goal.returns
returns c =
    puts_ok c.args.position c.args.mark c.ranges.position.fits c.ranges.mark.fits c.requires
    c.write_field-a.ensures c.write_field-b.ensures c.write_bytes.ensures
