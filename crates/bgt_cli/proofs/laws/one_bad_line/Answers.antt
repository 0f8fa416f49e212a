use Rattle.bgt_cli.proofs.Refusing.{one_line}
use Rattle.bgt_cli.proofs.laws.one_bad_line.Goals as goal

pub returns : goal.returns
returns c
    = λ limits file line other is as_well. one_line c.one_fault.ensures.mark c.one_fault.ensures.gates limits file line other is as_well
