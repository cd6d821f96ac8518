-- `step::buildings_round_six` meets its contract. Assumes nothing.
use lib.Ieee.{of_bits, round}
use Rattle.logical_variable_pulse.proofs.Cases.{rounds_down, rounds_up}
use Rattle.logical_variable_pulse.proofs.step.buildings_round_six.Goals as goal

pub returns-then-x : goal.returns-then-x
unfolding of_bits round
returns-then-x c = rounds_down _ c.if-x.true c.floor.ensures

pub returns : goal.returns
unfolding of_bits round
returns c = rounds_up _ c.if-x.false c.ceil.ensures
