-- `step::adjusted_period` raises to 2.02 times the minimum hold, by its bit pattern. Assumes nothing.
use lib.Ieee.{of_bits, round}
use Rattle.logical_variable_pulse.specs.LogicalVariablePulse.{adjusted_period}
use Rattle.logical_variable_pulse.proofs.step.adjusted_period.Goals as goal

pub returns : goal.returns
unfolding adjusted_period of_bits round
returns c = c.raised_to.ensures
