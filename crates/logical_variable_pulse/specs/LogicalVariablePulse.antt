-- `LogicalVariablePulse`: in each period the output is true for the share u of it, and each of its two values lasts for a least time. Definitions only.
use Rattle.std.specs.Prelude.{ℕ, ◌≡◌, refl, length, ◌^◌, Bool, true, false, not, ◌&&◌, ◌||◌, cond, List, [], ◌∷◌, get_or, Float, None, Some}
use Rattle.std.specs.Float.Ieee.{lt, le}
use Rattle.std.specs.Float.Ieee.Scale.{finite}
use Rattle.reals.specs.Words.{nearest, 0·0, 1·0, real_of, word_of, flag_of, word_of_flag}
use Rattle.reals.specs.Arithmetic.{◌⊕◌, ◌⊖◌, ◌⊗◌, ◌⊘◌}
use Rattle.reals.specs.Rounding.{magnitude, downward, upward, whole}
use Rattle.dynamics.specs.Previous.{previous_of, word_of_previous, is_first}
use Rattle.dynamics.specs.Leaves.{raised_to}
use Rattle.dynamics.specs.Answer.{Outputs, boolean_output}
use Rattle.dynamics.specs.Machine.{Machine}
use Rattle.dynamics.specs.Stepped.{Stepped, stepped_machine}
use Rattle.dynamics.specs.declared.call.Inputs.{Inputs}
use Rattle.dynamics.specs.declared.leaf.Timed.{Timed}
use Rattle.hold.specs.Hold.{output_and_timer}
use Rattle.hold.specs.declared.State as hold_state
use Rattle.logical_variable_pulse.specs.declared.LogicalVariablePulse.{LogicalVariablePulse}
use Rattle.logical_variable_pulse.specs.declared.state.State.{State}

-- ---- the sampled width and the cycle's anchor

-- `width_change_exceeds_delta`: |sampled - u| > delta_u, so a NaN changes nothing
unfoldable pub width_changed : Float → Float → Float → Bool
width_changed sampled u delta = lt delta (magnitude (sampled ⊖ u))

-- `next_sampled_u`: a width that has changed is sampled
unfoldable pub next_sampled_u : State → Float → Bool → Float
next_sampled_u s u changed = cond changed u s.sampled_u

-- `next_t0`: a cycle begins at the first tick, and anew where the width has changed
unfoldable pub next_t0 : State → Float → Bool → Float
next_t0 s time changed = cond (is_first s.previous || changed) time s.t0

-- ---- the cycle's output

-- how many minimum holds a period has at least: both outputs have room in it
abbrev pub 2·02 : Float
2·02 = nearest 202 100

-- `adjusted_period`: the larger of the period and 2.02 * the minimum hold
unfoldable pub adjusted_period : LogicalVariablePulse → Float
adjusted_period b = raised_to (b.min_true_false_hold ⊗ 2·02) b.period

abbrev pub million : Float
million = nearest (10 ^ 6) 1

abbrev pub half : Float
half = nearest 1 2

-- `buildings_round_six`: x to six decimals, a half away from zero
unfoldable pub round_six : Float → Float
round_six x =
    cond (lt 0·0 x) (whole downward (x ⊗ million ⊕ half) ⊘ million)
    (whole upward (x ⊗ million ⊖ half) ⊘ million)

-- where the latest period that has begun since t0 begins
unfoldable pub t_start : Float → Float → Float → Float
t_start time t0 period = t0 ⊕ round_six (whole downward ((time ⊖ t0) ⊘ period) ⊗ period)

-- `cycle_output`: false where the time or the anchor is not finite, or the share is not finite or not above 0.0; true for a share of 1.0
-- and more; else from the period's beginning for the share u of it
unfoldable pub cycle_output : Float → Float → Float → Float → Bool
cycle_output time u t0 period =
    let start = t_start time t0 period in
    cond (not (finite time && finite t0)) false
    (cond (not (finite u) || le u 0·0) false
    (cond (le 1·0 u) true
    (le start time && lt time (start ⊕ u ⊗ period))))

-- ---- the step

-- what it holds, for how long and as of which tick: a hold's state
abbrev pub held_by : State → hold_state.State
held_by s = record { held = s.held; timer = s.timer; previous = s.previous }

-- `held_output_and_timer`: each value of the output lasts for the minimum hold, as a hold lets it last
unfoldable pub held_output_and_timer : Bool → State → Float → Float → Timed
held_output_and_timer y s time least = output_and_timer least (held_by s) time y

unfoldable pub next : LogicalVariablePulse → State → Float → Float → State
next b s time u =
    let changed = width_changed s.sampled_u u b.delta_u in
    let t0 = next_t0 s time changed in
    let o = held_output_and_timer (cycle_output time u t0 (adjusted_period b)) s time b.min_true_false_hold in
    record { sampled_u = next_sampled_u s u changed; t0 = t0; held = o.y; timer = o.timer; previous = Some time }

-- a tick's input is its first word
unfoldable pub advance : LogicalVariablePulse → State → Float → Inputs → State
advance b s time i = next b s time (real_of i.first)

-- ---- the words: sampled input, cycle start, held output, timer, previous time

unfoldable pub state_of : List ℕ → State
state_of w = record {
  sampled_u = real_of (get_or w 0 0);
  t0 = real_of (get_or w 1 0);
  held = flag_of (get_or w 2 0);
  timer = real_of (get_or w 3 0);
  previous = previous_of (get_or w 4 0);
}

unfoldable pub words_of : State → List ℕ
words_of s = word_of s.sampled_u ∷ word_of s.t0 ∷ word_of_flag s.held ∷ word_of s.timer ∷ word_of_previous s.previous ∷ []

-- ---- the block

-- request 3's limits: delta_u from 0.01 to 0.5, the minimum hold at least 1 second
abbrev pub least_delta : Float
least_delta = nearest 1 100

abbrev pub most_delta : Float
most_delta = nearest 1 2

abbrev pub least_hold : Float
least_hold = 1·0

-- all three are finite, and the two within their limits
unfoldable pub settings_accepted : LogicalVariablePulse → Bool
settings_accepted b =
    (finite b.period && finite b.delta_u && finite b.min_true_false_hold)
    && (le least_delta b.delta_u && le b.delta_u most_delta && le least_hold b.min_true_false_hold)

-- previous time unset; the rest zero
abbrev pub initial : State
initial = record { sampled_u = 0·0; t0 = 0·0; held = false; timer = 0·0; previous = None }

-- the output of a tick is what is held after it
abbrev pub outputs : State → Outputs
outputs after = boolean_output after.held

abbrev pub block : LogicalVariablePulse → Stepped State
block b = record {
  accepts = settings_accepted b;
  initial = initial;
  size = 5;
  state_of = state_of;
  words_of = words_of;
  previous = λ s. s.previous;
  output = λ s time i. outputs (advance b s time i);
  advance = advance b;
}

abbrev pub machine : LogicalVariablePulse → Machine
machine b = stepped_machine (block b)

-- a state has as many words
pub counted : (b : LogicalVariablePulse) (s : State) → length ((block b).words_of s) ≡ (block b).size
unfolding words_of
counted b s = refl

-- the record of zeros, for which a refused decode stands
abbrev pub zeros : State
zeros = record { sampled_u = 0·0; t0 = 0·0; held = false; timer = 0·0; previous = Some 0·0 }
