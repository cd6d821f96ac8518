-- `TrueHoldWithReset` case by case: what each definition is where the tests before it have gone as said. Assumes nothing.
use mathlib.Core.Path.{◌≡◌}
use mathlib.Core.Bool.{Bool, true, false}
use lib.Ieee.{Float, binary64, add}
use Rattle.reals.specs.Words.{0·0}
use Rattle.dynamics.specs.Previous.{gap, is_first}
use Rattle.dynamics.specs.Leaves.{timed}
use Rattle.hold.specs.declared.State.{State}
use Rattle.true_hold_with_reset.specs.TrueHoldWithReset.{run_time, holds, output_and_timer}
use Rattle.true_hold_with_reset.specs.declared.TrueHoldWithReset.{TrueHoldWithReset}

module _ (s : State) (time : Float) where
  pub run_on : {g : Float} → s.held ≡ true → g ≡ gap time s.previous → add binary64 s.timer g ≡ run_time s time
  unfolding run_time
  run_on h q = simp (h, q)

  pub run_none : s.held ≡ false → 0·0 ≡ run_time s time
  unfolding run_time
  run_none h = simp h

module _ (b : TrueHoldWithReset) (s : State) (time : Float) (input clear : Bool) where
  pub cleared : clear ≡ true → timed false 0·0 ≡ output_and_timer b s time input clear
  unfolding output_and_timer
  cleared c = simp c

  module _ (c : clear ≡ false) where
    pub first : is_first s.previous ≡ true → timed input 0·0 ≡ output_and_timer b s time input clear
    unfolding output_and_timer
    first f = simp (c, f)

    module _ (f : is_first s.previous ≡ false) {x : Float} (t : x ≡ run_time s time) where
      pub held_on : holds b s x input ≡ true → timed true x ≡ output_and_timer b s time input clear
      unfolding output_and_timer
      held_on h = simp (c, f, t) (simp (rw t at h))

      pub over : holds b s x input ≡ false → timed false 0·0 ≡ output_and_timer b s time input clear
      unfolding output_and_timer
      over h = simp (c, f) (simp (rw t at h))
