-- One tick: the output is of the state before it. Assumes nothing.
use Rattle.controller.specs.Recurrence.{next_state}
use Rattle.pid.proofs.ControllerSteppedBlock.step.Goals as goal

pub returns : goal.returns
unfolding next_state
returns c = record {
  answer = simp (c.real_answer.ensures, c.current_terms-terms.ensures, c.heard-now.ensures);
  after = simp (c.next_state.ensures, c.current_terms-terms.ensures, c.heard-now.ensures);
}
