-- `Step::write` writes the first six words and the two of the point. Assumes nothing.
use native.Mathlib.Omega.{arith}
use lib.ListN.{length-set}
use Rattle.moving_average.proofs.Places.{mu_within}
use Rattle.moving_average.proofs.store.Step.write.Goals as goal

pub bounds-region-mu_at : goal.bounds-region-mu_at
bounds-region-mu_at c = simp length-set (omega (arith, c.mu_place-mu_at.ensures, mu_within _ c.requires.holds.stands c.args.self.place.position))
