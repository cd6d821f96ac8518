-- `State::close` meets its contract: `finish` writes the rest of the whole. Assumes nothing.
use Rattle.session.proofs.Written.{soak_writes}
use Rattle.soak.proofs.turn.State.close.Goals as goal

pub returns-clause-closes : goal.returns-clause-closes
returns-clause-closes c = λ input text w. soak_writes w c.finish.ensures.finishes
