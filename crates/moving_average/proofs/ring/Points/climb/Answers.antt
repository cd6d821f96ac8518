-- `Points::climb` stops at the first time that is below the one before. Assumes nothing.
use native.Mathlib.Omega.{arith}
use lib.Ieee.{of_bits}
use Rattle.window.proofs.Climbs.{left_off}
use Rattle.moving_average.proofs.ring.Points.climb.Goals as goal

pub returns-else-top-next : goal.returns-else-top-next
unfolding of_bits
returns-else-top-next c = left_off _ _ _ _ _ _ c.loop-s.invariant (omega arith) c.slot_time-next.ensures c.if-top-next.false
