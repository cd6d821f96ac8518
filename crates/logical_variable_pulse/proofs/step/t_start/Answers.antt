-- `step::t_start` meets its contract. Assumes nothing.
use Rattle.logical_variable_pulse.specs.LogicalVariablePulse.{t_start}
use Rattle.logical_variable_pulse.proofs.step.t_start.Goals as goal

pub returns : goal.returns
unfolding t_start
returns c = simp (c.buildings_round_six.ensures, c.floor.ensures)
