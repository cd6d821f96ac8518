-- `step::advance` is one tick. Assumes nothing.
use Rattle.true_hold_with_reset.specs.TrueHoldWithReset.{next, advance}
use Rattle.true_hold_with_reset.proofs.step.advance.Goals as goal

pub returns : goal.returns
unfolding advance next
returns c = simp (c.output_and_timer-timed.ensures, c.flag_of-clear.ensures, c.flag_of-input.ensures)
