use Rattle.bgt_cli.proofs.Rooms.{no_refusal, no_refusal_of_check}
use Rattle.bgt_cli.proofs.laws.no_refusal.Goals as goal

pub returns-clause-load : goal.returns-clause-load
returns-clause-load c
    = λ limits state kept input told n gate ends all. no_refusal c.one_run.ensures limits state kept input told n gate ends all

pub returns-clause-check : goal.returns-clause-check
returns-clause-check c = λ limits input told n ends all. no_refusal_of_check c.one_run.ensures limits input told n ends all
