-- `Points::expired` stops at the first time after the cutoff. Assumes nothing.
use mathlib.Core.Path.{refl}
use native.Mathlib.Omega.{arith}
use lib.Ieee.{le}
use Rattle.moving_average.specs.Ring.{expired_of}
use Rattle.moving_average.proofs.Walks.{passed_more, passed_stop, passed_all}
use Rattle.moving_average.proofs.ring.Points.expired.Goals as goal

-- `le` is opened into `lt` or `eq`: a code that compares by `lt` fails at the one case in which they differ
pub loop-n-preserved : goal.loop-n-preserved
unfolding le
loop-n-preserved c =
    let next = passed_more _ _ _ _ c.loop-n.n (omega arith) (omega arith) c.loop-n.invariant.1 (rw (← c.time_at.ensures, c.if-time_at-cutoff.true)) in
    (refl, rw (← c.loop-n.invariant.0) at next)

pub returns-else-time_at-cutoff : goal.returns-else-time_at-cutoff
unfolding expired_of le
returns-else-time_at-cutoff c = passed_stop _ _ _ _ c.loop-n.n (omega arith) c.loop-n.invariant.1 (rw (← c.time_at.ensures, c.if-time_at-cutoff.false))

pub returns : goal.returns
unfolding expired_of
returns c = passed_all _ _ _ _ (omega arith) c.loop-n.invariant.1
