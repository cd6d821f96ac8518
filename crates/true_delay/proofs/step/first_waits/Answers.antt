-- `step::first_waits` meets its contract. Assumes nothing.
use mathlib.Core.Path.{refl}
use lib.Ieee.{of_bits}
use Rattle.true_delay.proofs.step.first_waits.Goals as goal

pub returns : goal.returns
unfolding of_bits
returns c = refl
