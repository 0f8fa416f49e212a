use Rattle.std.proofs.Common.{Option, subst}
use Rattle.fault_point.specs.declared.fault.Fault.{Fault}
use Rattle.fault_point.specs.Faults.{Explains}
use Rattle.bgt_cli.proofs.Replying.{explanation_ok}
use Rattle.bgt_cli.proofs.replies.explanation.Goals as goal

pub returns : goal.returns
returns c =
    explanation_ok c.args.core.now.state c.args.message.now c.in_ok-area.area c.in_ok-area.parts c.in-Some.found c.fault_line.result
    c.in_ok-area.ensures.area c.in_ok-area.ensures.parts
    (subst (λ (o : Option Fault). Explains c.in_ok-area.area c.in_ok-area.parts o) c.in-Some.is c.in_ok-found.ensures.explains)
    c.fault_line.ensures
