-- `Points::edge` stops at the first time that the target does not pass. Assumes nothing.
use mathlib.Core.Bool.{not}
use Prim.Native.Nat.{ℕ}
use lib.Ieee.{le}
use Rattle.moving_average.specs.Ring.{time_at}
use Rattle.moving_average.proofs.Walks.{Passed}
use Rattle.moving_average.proofs.ring.Points.edge.Given as goal

-- the walk goes on past each time that the target lies after
abbrev pub invariant-loop-n : goal.invariant-loop-n
invariant-loop-n l = Passed (λ (n : ℕ). not (le l.target (time_at l.self.region.now l.self.ring n))) 0 l.self.ring.count l.n
