-- `step::held_output_and_timer` holds the cycle's output as a hold does. Assumes nothing.
use Rattle.logical_variable_pulse.specs.LogicalVariablePulse.{held_output_and_timer}
use Rattle.logical_variable_pulse.proofs.step.held_output_and_timer.Goals as goal

pub returns : goal.returns
unfolding held_output_and_timer
returns c = c.output_and_timer.ensures
