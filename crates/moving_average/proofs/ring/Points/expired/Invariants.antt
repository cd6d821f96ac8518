-- `Points::expired` stops at the first time after the cutoff. Assumes nothing.
use mathlib.Core.Path.{◌≡◌}
use Prim.Native.Nat.{ℕ, ◌+◌, ◌-◌}
use lib.Ieee.{le}
use Rattle.moving_average.specs.Ring.{time_at}
use Rattle.moving_average.proofs.Walks.{Passed}
use Rattle.moving_average.proofs.ring.Points.expired.Given as goal

-- the point before each time that is not after the cutoff expires
abbrev pub invariant-loop-n : goal.invariant-loop-n
invariant-loop-n l = (l.n ≡ l.gone + 1) × Passed (λ (n : ℕ). le (time_at l.self.region.now l.self.ring n) l.cutoff) 1 (l.self.ring.count - 1) l.gone
