use Rattle.std.proofs.Common.{◌≡◌, ◌≤◌, take}
use Rattle.map_core.specs.Tried.{at_rest}
use Rattle.bgt_cli.specs.Trial.{IsLeftBy}
use Rattle.bgt_cli.proofs.trial.answer_messages.Given as goal

abbrev pub invariant-loop-message : goal.invariant-loop-message
invariant-loop-message l = record {
  rest : l.core ≡ at_rest l.initial.core.limits l.core.state;
  left : IsLeftBy l.initial.core.limits (take l.message-index l.messages) l.core.state;
  few : l.core.state.accepted ≤ l.message-index;
}
