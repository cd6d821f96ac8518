-- An output that lasts for a least time, case by case: what `output_and_timer` is where the tests before have gone as said. Assumes nothing.
use mathlib.Core.Path.{◌≡◌}
use mathlib.Core.Bool.{Bool, true, false, not, beq}
use lib.Ieee.{Float, binary64, add, le}
use Rattle.reals.specs.Words.{0·0}
use Rattle.dynamics.specs.Previous.{gap, is_first}
use Rattle.dynamics.specs.Leaves.{timed}
use Rattle.hold.specs.Hold.{flips, output_and_timer}
use Rattle.hold.specs.declared.State.{State}

module _ (least : Float) (s : State) (time : Float) (input : Bool) where
  pub first : is_first s.previous ≡ true → timed input 0·0 ≡ output_and_timer least s time input
  unfolding output_and_timer
  first f = simp f

  module _ (f : is_first s.previous ≡ false) {g : Float} (q : g ≡ gap time s.previous) where
    pub agrees : beq input s.held ≡ true → timed s.held (add binary64 s.timer g) ≡ output_and_timer least s time input
    unfolding output_and_timer flips
    agrees a = simp (f, q, a)

    module _ (a : beq input s.held ≡ false) where
      pub flipped : le least (add binary64 s.timer g) ≡ true → timed (not s.held) 0·0 ≡ output_and_timer least s time input
      unfolding output_and_timer flips
      flipped l = simp (f, a) (simp (rw q at l))

      pub stays : le least (add binary64 s.timer g) ≡ false → timed s.held (add binary64 s.timer g) ≡ output_and_timer least s time input
      unfolding output_and_timer flips
      stays l = simp (f, a, q) (simp (rw q at l))
