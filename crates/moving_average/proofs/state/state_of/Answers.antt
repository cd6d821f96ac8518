-- `state::state_of` reads the six words. Assumes nothing.
use Rattle.moving_average.specs.MovingAverage.{state_of}
use Rattle.moving_average.proofs.state.state_of.Goals as goal

pub returns : goal.returns
unfolding state_of
returns c = simp (c.flag_at.ensures, c.word_at-2.ensures, c.word_at.ensures, c.previous_at.ensures, c.real_at-2.ensures, c.real_at.ensures)
