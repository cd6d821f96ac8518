-- `step::advance` is one tick. Assumes nothing.
use Rattle.true_false_hold.specs.TrueFalseHold.{next, advance}
use Rattle.true_false_hold.proofs.step.advance.Goals as goal

pub returns : goal.returns
unfolding advance next
returns c = simp (c.output_and_timer-timed.ensures, c.flag_of.ensures, c.required_time-least.ensures)
