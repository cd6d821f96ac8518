-- `step::required_time` meets its contract. Assumes nothing.
use Rattle.true_false_hold.proofs.Cases.{required_true, required_false}
use Rattle.true_false_hold.proofs.step.required_time.Goals as goal

pub returns-then-held : goal.returns-then-held
returns-then-held c = required_true _ _ c.if-held.true c.positive_duration.ensures

pub returns : goal.returns
returns c = required_false _ _ c.if-held.false c.positive_duration-2.ensures
