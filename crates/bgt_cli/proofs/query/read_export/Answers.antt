use Rattle.bgt_cli.proofs.query.read_export.Goals as goal

pub returns-in-Err : goal.returns-in-Err
returns-in-Err c = λ moment is. c.in-Err.ensures.value moment (rw c.as_bytes.ensures.value is)
