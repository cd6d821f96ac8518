-- `TrueDelay`: a true input passes when it has lasted for the delay, a false one at once. Definitions only.
use Rattle.std.specs.Prelude.{ℕ, ◌≡◌, refl, length, Bool, true, false, not, ◌&&◌, cond, List, [], ◌∷◌, get_or, Float, None, Some}
use Rattle.std.specs.Float.Ieee.{lt, le}
use Rattle.std.specs.Float.Ieee.Scale.{finite}
use Rattle.reals.specs.Words.{0·0, real_of, word_of, flag_of, word_of_flag}
use Rattle.reals.specs.Arithmetic.{◌⊕◌}
use Rattle.dynamics.specs.Previous.{previous_of, word_of_previous, gap, is_first}
use Rattle.dynamics.specs.Leaves.{positive_duration, timed}
use Rattle.dynamics.specs.Answer.{Outputs, boolean_output}
use Rattle.dynamics.specs.Machine.{Machine}
use Rattle.dynamics.specs.Stepped.{Stepped, stepped_machine}
use Rattle.dynamics.specs.declared.call.Inputs.{Inputs}
use Rattle.dynamics.specs.declared.leaf.Timed.{Timed}
use Rattle.true_delay.specs.declared.TrueDelay.{TrueDelay}
use Rattle.true_delay.specs.declared.state.State.{State}

-- ---- the step

-- a true input on the first tick has to wait: it is asked for, and there is a delay
abbrev pub waits : TrueDelay → Float → Bool
waits b delay = b.delay_on_init && lt 0·0 delay

-- `output_and_timer`: after the first tick a held output stays, a rising input begins at 0.0, else the gap comes on top
unfoldable pub output_and_timer : TrueDelay → State → Float → Bool → Timed
output_and_timer b s time input =
    let delay = positive_duration b.delay_time in
    let timer = s.timer ⊕ gap time s.previous in
    cond (not input) (timed false 0·0)
    (cond (is_first s.previous) (cond (waits b delay) (timed false 0·0) (timed true delay))
    (cond s.held (timed true delay)
    (cond (not s.input) (timed (le delay 0·0) 0·0)
    (timed (le delay timer) timer))))

-- it holds the output
unfoldable pub next : TrueDelay → State → Float → Bool → State
next b s time input =
    let o = output_and_timer b s time input in
    record { timer = o.timer; previous = Some time; input = input; held = o.y }

-- a tick's input is its first word
unfoldable pub advance : TrueDelay → State → Float → Inputs → State
advance b s time i = next b s time (flag_of i.first)

-- ---- the words: timer, previous time, previous input, held

unfoldable pub state_of : List ℕ → State
state_of w = record {
  timer = real_of (get_or w 0 0);
  previous = previous_of (get_or w 1 0);
  input = flag_of (get_or w 2 0);
  held = flag_of (get_or w 3 0);
}

unfoldable pub words_of : State → List ℕ
words_of s = word_of s.timer ∷ word_of_previous s.previous ∷ word_of_flag s.input ∷ word_of_flag s.held ∷ []

-- ---- the block

abbrev pub settings_accepted : TrueDelay → Bool
settings_accepted b = finite b.delay_time

-- all zero
abbrev pub initial : State
initial = record { timer = 0·0; previous = None; input = false; held = false }

-- the output of a tick is what it holds
abbrev pub outputs : State → Outputs
outputs after = boolean_output after.held

abbrev pub block : TrueDelay → Stepped State
block b = record {
  accepts = settings_accepted b;
  initial = initial;
  size = 4;
  state_of = state_of;
  words_of = words_of;
  previous = λ s. s.previous;
  output = λ s time i. outputs (advance b s time i);
  advance = advance b;
}

abbrev pub machine : TrueDelay → Machine
machine b = stepped_machine (block b)

-- a state has as many words
pub counted : (b : TrueDelay) (s : State) → length ((block b).words_of s) ≡ (block b).size
unfolding words_of
counted b s = refl

-- the record of zeros, for which a refused decode stands
abbrev pub zeros : State
zeros = record { timer = 0·0; previous = Some 0·0; input = false; held = false }
