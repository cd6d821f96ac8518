-- `step::is_true` tells whether the output is true. Assumes nothing.
use Rattle.true_hold_with_reset.specs.TrueHoldWithReset.{holds}
use Rattle.true_hold_with_reset.proofs.step.is_true.Goals as goal

pub returns : goal.returns
unfolding holds
returns c = simp c.positive_duration.ensures
