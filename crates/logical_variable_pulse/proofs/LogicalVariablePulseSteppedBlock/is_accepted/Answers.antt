-- `is_accepted` makes its tests, the limits by their bit patterns. Assumes nothing.
use lib.Ieee.{of_bits, round}
use Rattle.logical_variable_pulse.specs.LogicalVariablePulse.{settings_accepted}
use Rattle.logical_variable_pulse.proofs.LogicalVariablePulseSteppedBlock.is_accepted.Goals as goal

pub returns : goal.returns
unfolding settings_accepted of_bits round
returns c = simp (c.is_finite-3.ensures, c.is_finite-2.ensures, c.is_finite.ensures)
