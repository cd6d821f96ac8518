-- `step::run_time` meets its contract. Assumes nothing.
use lib.Ieee.{of_bits}
use Rattle.true_hold_with_reset.proofs.Cases.{run_on, run_none}
use Rattle.true_hold_with_reset.proofs.step.run_time.Goals as goal

pub returns-then-s : goal.returns-then-s
returns-then-s c = run_on _ _ c.if-s.true c.tick_dt.ensures

pub returns : goal.returns
unfolding of_bits
returns c = run_none _ _ c.if-s.false
