-- `step::cycle_output` meets its contract. Assumes nothing.
use lib.Ieee.{of_bits}
use Rattle.logical_variable_pulse.proofs.Cases.{no_time, no_share, whole_share, share}
use Rattle.logical_variable_pulse.proofs.step.cycle_output.Goals as goal

pub returns-then-not-is_finite : goal.returns-then-not-is_finite
returns-then-not-is_finite c = no_time _ _ _ _ c.is_finite.ensures c.is_finite-2.ensures c.if-not-is_finite.true-raw

pub returns-then-is_finite-u : goal.returns-then-is_finite-u
unfolding of_bits
returns-then-is_finite-u c = no_share _ _ _ _ c.is_finite.ensures c.is_finite-2.ensures c.if-not-is_finite.false-raw c.is_finite-3.ensures c.if-is_finite-u.true

pub returns-then-u : goal.returns-then-u
unfolding of_bits
returns-then-u c = whole_share _ _ _ _ c.is_finite.ensures c.is_finite-2.ensures c.if-not-is_finite.false-raw c.is_finite-3.ensures c.if-is_finite-u.false c.if-u.true

pub returns : goal.returns
unfolding of_bits
returns c = share _ _ _ _ c.is_finite.ensures c.is_finite-2.ensures c.if-not-is_finite.false-raw c.is_finite-3.ensures c.if-is_finite-u.false c.if-u.false c.t_start-start.ensures
