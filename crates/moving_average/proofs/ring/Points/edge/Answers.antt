-- `Points::edge` stops at the first time that the target does not pass. Assumes nothing.
use native.Mathlib.Omega.{arith}
use Rattle.moving_average.specs.Ring.{edge_of}
use Rattle.moving_average.proofs.Walks.{passed_more, passed_stop, passed_all}
use Rattle.moving_average.proofs.ring.Points.edge.Goals as goal

pub returns-then-target-time_at : goal.returns-then-target-time_at
unfolding edge_of
returns-then-target-time_at c = passed_stop _ _ _ _ c.loop-n.n (omega arith) c.loop-n.invariant (rw (← c.time_at.ensures, c.if-target-time_at.true))

pub loop-n-preserved : goal.loop-n-preserved
loop-n-preserved c = passed_more _ _ _ _ c.loop-n.n (omega arith) (omega arith) c.loop-n.invariant (rw (← c.time_at.ensures, c.if-target-time_at.false))

pub returns : goal.returns
unfolding edge_of
returns c = let all = passed_all _ _ _ _ c.loop-n-test.false c.loop-n.invariant in omega (arith, c.loop-n.invariant.0)
