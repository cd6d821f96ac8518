-- `step::advance` is one tick. Assumes nothing.
use Rattle.timer_accumulating.specs.TimerAccumulating.{next, advance}
use Rattle.timer_accumulating.proofs.step.advance.Goals as goal

pub returns : goal.returns
unfolding advance next
returns c = simp (c.passed_now.ensures, c.y_now-y.ensures, c.is_rising-wipes.ensures, c.flag_of-reset.ensures, c.flag_of-input.ensures)
