-- A pulse's last stage is `TrueFalseHold` with both durations its minimum hold. Assumes nothing.
use mathlib.Core.Path.{◌≡◌, refl}
use mathlib.Core.Bool.{Bool, true, false}
use denote.Floats.{passes}
use lib.Dec.{T}
use lib.Ieee.{Float, lt, le}
use Rattle.reals.specs.Words.{0·0, 1·0}
use Rattle.reals.proofs.Order.{le_right, le_transitive, le_of_not_lt}
use Rattle.dynamics.specs.Leaves.{positive_duration}
use Rattle.true_false_hold.specs.TrueFalseHold as hold
use Rattle.true_false_hold.specs.declared.TrueFalseHold.{TrueFalseHold}
use Rattle.logical_variable_pulse.specs.LogicalVariablePulse.{width_changed, next_t0, adjusted_period, cycle_output, held_by, held_output_and_timer, next, least_hold, settings_accepted}
use Rattle.logical_variable_pulse.specs.declared.LogicalVariablePulse.{LogicalVariablePulse}
use Rattle.logical_variable_pulse.specs.declared.state.State.{State}
use Rattle.logical_variable_pulse.proofs.Limits.{within}

-- 1.0 and more is above 0.0
none_above : T (le 1·0 0·0) → ⊥
unfolding le
none_above l = l

pub above_zero : (x : Float) → T (le 1·0 x) → lt 0·0 x ≡ true
above_zero x l = go (lt 0·0 x) refl
  where
    go : (above : Bool) → lt 0·0 x ≡ above → lt 0·0 x ≡ true
    go true e = e
    go false e = absurd (none_above (le_transitive _ _ _ l (le_of_not_lt x 0·0 (le_right _ _ l) tt e)))

-- so a second or more is a positive duration as it is
positive : (x : Float) → T (le least_hold x) → positive_duration x ≡ x
unfolding positive_duration
positive x l = rw (above_zero x l) refl

module _ (b : LogicalVariablePulse) (ok : settings_accepted b ≡ true) where
  -- the hold of both durations
  abbrev pub alike : TrueFalseHold
  alike = record { true_hold_duration = b.min_true_false_hold; false_hold_duration = b.min_true_false_hold }

  same_time : (held : Bool) → hold.required alike held ≡ b.min_true_false_hold
  unfolding hold.required
  same_time true = positive _ (passes _ (within b ok).hold_least)
  same_time false = positive _ (passes _ (within b ok).hold_least)

  -- what is held after a tick is what that hold holds after one with the cycle's output as its input
  pub holds_alike : (s : State) (time u : Float)
      → let t0 = next_t0 s time (width_changed s.sampled_u u b.delta_u) in
      held_by (next b s time u) ≡ hold.next alike (held_by s) time (cycle_output time u t0 (adjusted_period b))
  unfolding next held_output_and_timer hold.next
  holds_alike s time u = rw (same_time s.held) refl
