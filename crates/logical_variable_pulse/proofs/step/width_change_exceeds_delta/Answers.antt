-- `step::width_change_exceeds_delta` meets its contract, by its comparison. Assumes nothing.
use Rattle.logical_variable_pulse.specs.LogicalVariablePulse.{width_changed}
use Rattle.logical_variable_pulse.proofs.step.width_change_exceeds_delta.Goals as goal

pub returns : goal.returns
unfolding width_changed
returns c = simp c.absolute.ensures
