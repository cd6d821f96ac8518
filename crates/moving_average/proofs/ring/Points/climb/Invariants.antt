-- `Points::climb` stops at the first time that is below the one before. Assumes nothing.
use Rattle.window.proofs.Climbs.{Left}
use Rattle.moving_average.specs.Ring.{slot_time}
use Rattle.moving_average.proofs.ring.Points.climb.Given as goal

abbrev pub invariant-loop-s : goal.invariant-loop-s
invariant-loop-s l = Left (slot_time l.self.region.now) l.from l.to l.last l.s l.top
