-- `LogicalVariablePulse` case by case: what each definition is where the tests before it have gone as said. Assumes nothing.
use mathlib.Core.Path.{◌≡◌}
use mathlib.Core.Bool.{Bool, true, false, not, ◌&&◌, ◌||◌}
use lib.Ieee.{Float, lt, le}
use lib.Ieee.Scale.{finite}
use Rattle.reals.specs.Words.{0·0, 1·0}
use Rattle.reals.specs.Arithmetic.{◌⊕◌, ◌⊖◌, ◌⊗◌, ◌⊘◌}
use Rattle.reals.specs.Rounding.{downward, upward, whole}
use Rattle.dynamics.specs.Previous.{is_first}
use Rattle.logical_variable_pulse.specs.LogicalVariablePulse.{next_t0, million, half, round_six, t_start, cycle_output}
use Rattle.logical_variable_pulse.specs.declared.state.State.{State}

module _ (x : Float) {r : Float} where
  pub rounds_down : lt 0·0 x ≡ true → r ≡ whole downward (x ⊗ million ⊕ half) → r ⊘ million ≡ round_six x
  unfolding round_six
  rounds_down h e = simp (h, e)

  pub rounds_up : lt 0·0 x ≡ false → r ≡ whole upward (x ⊗ million ⊖ half) → r ⊘ million ≡ round_six x
  unfolding round_six
  rounds_up h e = simp (h, e)

module _ (time u t0 period : Float) {a b : Bool} (ea : a ≡ finite time) (eb : b ≡ finite t0) where
  pub no_time : not (a && b) ≡ true → false ≡ cycle_output time u t0 period
  unfolding cycle_output
  no_time h = simp (rw (ea, eb) at h)

  module _ {c : Bool} (h : not (a && b) ≡ false) (ec : c ≡ finite u) where
    pub no_share : not c || le u 0·0 ≡ true → false ≡ cycle_output time u t0 period
    unfolding cycle_output
    no_share l = simp (rw (ea, eb) at h) (simp (rw ec at l))

    module _ (l : not c || le u 0·0 ≡ false) where
      pub whole_share : le 1·0 u ≡ true → true ≡ cycle_output time u t0 period
      unfolding cycle_output
      whole_share m = simp (rw (ea, eb) at h) (simp (rw ec at l) (simp m))

      pub share : {s : Float} → le 1·0 u ≡ false → s ≡ t_start time t0 period
          → le s time && lt time (s ⊕ u ⊗ period) ≡ cycle_output time u t0 period
      unfolding cycle_output
      share m e = simp (rw (ea, eb) at h) (simp (rw ec at l) (simp (m, e)))

module _ (s : State) (time : Float) (changed : Bool) {f : Bool} (e : f ≡ is_first s.previous) where
  pub begins : f || changed ≡ true → time ≡ next_t0 s time changed
  unfolding next_t0
  begins h = simp (rw e at h)

  pub goes_on : f || changed ≡ false → s.t0 ≡ next_t0 s time changed
  unfolding next_t0
  goes_on h = simp (rw e at h)
