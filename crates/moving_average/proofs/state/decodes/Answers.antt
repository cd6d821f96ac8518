-- `state::decodes` makes the three tests. Assumes nothing.
use Rattle.moving_average.specs.MovingAverage.{decodable}
use Rattle.moving_average.proofs.state.decodes.Goals as goal

pub returns : goal.returns
unfolding decodable
returns c = rw c.previous_sound.ensures
