use Rattle.bgt_cli.proofs.query.read_point.Goals as goal

pub returns-in-Err : goal.returns-in-Err
returns-in-Err c = λ p moment point is. c.in-Err.ensures.value moment (rw c.as_bytes-3.ensures.value is)
