-- `TrueDelay` case by case: what each definition is where the tests before it have gone as said. Assumes nothing.
use mathlib.Core.Path.{◌≡◌}
use mathlib.Core.Bool.{Bool, true, false, not}
use lib.Ieee.{Float, binary64, add, le}
use Rattle.reals.specs.Words.{0·0}
use Rattle.dynamics.specs.Previous.{gap, is_first}
use Rattle.dynamics.specs.Leaves.{positive_duration, timed}
use Rattle.true_delay.specs.TrueDelay.{waits, output_and_timer}
use Rattle.true_delay.specs.declared.TrueDelay.{TrueDelay}
use Rattle.true_delay.specs.declared.state.State.{State}

module _ (b : TrueDelay) (s : State) (time : Float) (input : Bool) where
  pub low : not input ≡ true → timed false 0·0 ≡ output_and_timer b s time input
  unfolding output_and_timer
  low u = simp u

  module _ (u : not input ≡ false) {d : Float} (e : d ≡ positive_duration b.delay_time) where
    pub waits_first : is_first s.previous ≡ true → waits b d ≡ true → timed false 0·0 ≡ output_and_timer b s time input
    unfolding output_and_timer
    waits_first f w = simp (u, f) (simp (rw e at w))

    pub passes_first : is_first s.previous ≡ true → waits b d ≡ false → timed true d ≡ output_and_timer b s time input
    unfolding output_and_timer
    passes_first f w = simp (u, f, e) (simp (rw e at w))

    pub holds_on : is_first s.previous ≡ false → s.held ≡ true → timed true d ≡ output_and_timer b s time input
    unfolding output_and_timer
    holds_on f h = simp (u, f, h, e)

    pub rose : is_first s.previous ≡ false → s.held ≡ false → not s.input ≡ true → timed (le d 0·0) 0·0 ≡ output_and_timer b s time input
    unfolding output_and_timer
    rose f h v = simp (u, f, h, v, e)

    pub runs : {g : Float} → is_first s.previous ≡ false → s.held ≡ false → not s.input ≡ false → g ≡ gap time s.previous
        → timed (le d (add binary64 s.timer g)) (add binary64 s.timer g) ≡ output_and_timer b s time input
    unfolding output_and_timer
    runs f h v q = simp (u, f, h, v, e, q)
