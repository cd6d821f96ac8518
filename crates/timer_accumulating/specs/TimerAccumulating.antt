-- `TimerAccumulating`: accumulated true-time, cleared by a rising reset. Definitions only.
use Rattle.std.specs.Prelude.{ℕ, ◌≡◌, refl, length, Bool, true, false, not, ◌&&◌, cond, List, [], ◌∷◌, get_or, Float, None, Some}
use Rattle.std.specs.Float.Ieee.{le}
use Rattle.std.specs.Float.Ieee.Scale.{finite}
use Rattle.reals.specs.Words.{0·0, real_of, word_of, flag_of, word_of_flag}
use Rattle.reals.specs.Arithmetic.{◌⊕◌}
use Rattle.dynamics.specs.Previous.{previous_of, word_of_previous, gap, is_first}
use Rattle.dynamics.specs.Leaves.{rising}
use Rattle.dynamics.specs.Answer.{Outputs, both_outputs}
use Rattle.dynamics.specs.Machine.{Machine}
use Rattle.dynamics.specs.Stepped.{Stepped, stepped_machine}
use Rattle.dynamics.specs.declared.call.Inputs.{Inputs}
use Rattle.timer_accumulating.specs.declared.TimerAccumulating.{TimerAccumulating}
use Rattle.timer_accumulating.specs.declared.state.State.{State}

-- ---- the step

-- the gap that this tick ends counts: there is one, and both its ends have a true input
abbrev pub counts : State → Bool → Bool
counts s input = not (is_first s.previous) && (s.input && input)

-- `y_now`: 0.0 on a wiping tick, else the total so far with the gap on top if it counts
unfoldable pub y_now : State → Float → Bool → Bool → Float
y_now s time input wipes =
    cond wipes 0·0
    (cond (counts s input) (s.total ⊕ gap time s.previous)
    s.total)

-- `passed_now`: a wiping tick and a rising input sample the total, reaching t sets it, else it holds
unfoldable pub passed_now : TimerAccumulating → State → Bool → Bool → Float → Bool
passed_now b s input wipes y =
    cond wipes (le b.t 0·0)
    (cond (rising input s.input) (le b.t s.total)
    (cond (input && le b.t y) true
    s.passed))

-- a rising reset wipes
unfoldable pub next : TimerAccumulating → State → Float → Bool → Bool → State
next b s time input reset =
    let wipes = rising reset s.reset in
    let y = y_now s time input wipes in
    record { total = y; previous = Some time; input = input; reset = reset; passed = passed_now b s input wipes y }

-- a tick's two inputs are its first words
unfoldable pub advance : TimerAccumulating → State → Float → Inputs → State
advance b s time i = next b s time (flag_of i.first) (flag_of i.second)

-- ---- the words: total, previous time, previous input, previous reset, passed

unfoldable pub state_of : List ℕ → State
state_of w = record {
  total = real_of (get_or w 0 0);
  previous = previous_of (get_or w 1 0);
  input = flag_of (get_or w 2 0);
  reset = flag_of (get_or w 3 0);
  passed = flag_of (get_or w 4 0);
}

unfoldable pub words_of : State → List ℕ
words_of s = word_of s.total ∷ word_of_previous s.previous ∷ word_of_flag s.input ∷ word_of_flag s.reset ∷ word_of_flag s.passed ∷ []

-- ---- the block

abbrev pub settings_accepted : TimerAccumulating → Bool
settings_accepted b = finite b.t

-- passed is t <= 0; the rest zero
abbrev pub initial : TimerAccumulating → State
initial b = record { total = 0·0; previous = None; input = false; reset = false; passed = le b.t 0·0 }

-- the outputs of a tick are the total and passed after it
abbrev pub outputs : State → Outputs
outputs after = both_outputs after.total after.passed

abbrev pub block : TimerAccumulating → Stepped State
block b = record {
  accepts = settings_accepted b;
  initial = initial b;
  size = 5;
  state_of = state_of;
  words_of = words_of;
  previous = λ s. s.previous;
  output = λ s time i. outputs (advance b s time i);
  advance = advance b;
}

abbrev pub machine : TimerAccumulating → Machine
machine b = stepped_machine (block b)

-- a state has as many words
pub counted : (b : TimerAccumulating) (s : State) → length ((block b).words_of s) ≡ (block b).size
unfolding words_of
counted b s = refl

-- the record of zeros, for which a refused decode stands
abbrev pub zeros : State
zeros = record { total = 0·0; previous = Some 0·0; input = false; reset = false; passed = false }
