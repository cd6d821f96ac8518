-- `step::gap_counts` tells whether the gap counts. Assumes nothing.
use Rattle.timer_accumulating.proofs.step.gap_counts.Goals as goal

pub returns : goal.returns
returns c = simp c.is_first_tick.ensures
