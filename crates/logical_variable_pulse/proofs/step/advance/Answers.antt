-- `step::advance` is one tick. Assumes nothing.
use Rattle.logical_variable_pulse.specs.LogicalVariablePulse.{next, advance}
use Rattle.logical_variable_pulse.proofs.step.advance.Goals as goal

pub returns : goal.returns
unfolding advance next
returns c = simp (c.next_sampled_u.ensures, c.held_output_and_timer-timed.ensures, c.cycle_output-cycle_y.ensures, c.adjusted_period.ensures, c.next_t0-t0.ensures, c.width_change_exceeds_delta-changed.ensures, c.real_of-u.ensures)
