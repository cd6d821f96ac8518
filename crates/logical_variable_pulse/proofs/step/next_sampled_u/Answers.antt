-- `step::next_sampled_u` meets its contract. Assumes nothing.
use Rattle.logical_variable_pulse.specs.LogicalVariablePulse.{next_sampled_u}
use Rattle.logical_variable_pulse.proofs.step.next_sampled_u.Goals as goal

pub returns-then-changed : goal.returns-then-changed
unfolding next_sampled_u
returns-then-changed c = rw c.if-changed.true

pub returns : goal.returns
unfolding next_sampled_u
returns c = rw c.if-changed.false
