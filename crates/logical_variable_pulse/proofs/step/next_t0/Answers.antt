-- `step::next_t0` meets its contract. Assumes nothing.
use Rattle.logical_variable_pulse.proofs.Cases.{begins, goes_on}
use Rattle.logical_variable_pulse.proofs.step.next_t0.Goals as goal

pub returns-then-is_first_tick-changed : goal.returns-then-is_first_tick-changed
returns-then-is_first_tick-changed c = begins _ _ _ c.is_first_tick.ensures c.if-is_first_tick-changed.true

pub returns : goal.returns
returns c = goes_on _ _ _ c.is_first_tick.ensures c.if-is_first_tick-changed.false
