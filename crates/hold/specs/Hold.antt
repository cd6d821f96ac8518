-- What `TrueFalseHold` and `TrueHoldWithReset` share: an output that lasts, its timer, and their words; and how an output lasts for a
-- least time, as those of `TrueFalseHold` and of the variable pulse do. Definitions only.
use Rattle.std.specs.Prelude.{ℕ, ◌≡◌, refl, length, Bool, false, not, ◌&&◌, cond, List, [], ◌∷◌, get_or, Float, None, Some}
use Rattle.std.specs.Bool.{beq}
use Rattle.std.specs.Float.Ieee.{le}
use Rattle.reals.specs.Words.{0·0, real_of, word_of, flag_of, word_of_flag}
use Rattle.reals.specs.Arithmetic.{◌⊕◌}
use Rattle.dynamics.specs.Previous.{previous_of, word_of_previous, gap, is_first}
use Rattle.dynamics.specs.Leaves.{timed}
use Rattle.dynamics.specs.Answer.{Outputs, boolean_output}
use Rattle.dynamics.specs.Stepped.{Stepped}
use Rattle.dynamics.specs.declared.call.Inputs.{Inputs}
use Rattle.dynamics.specs.declared.leaf.Timed.{Timed}
use Rattle.hold.specs.declared.State.{State}

-- ---- the words: held, timer, previous time

unfoldable pub state_of : List ℕ → State
state_of w = record { held = flag_of (get_or w 0 0); timer = real_of (get_or w 1 0); previous = previous_of (get_or w 2 0) }

unfoldable pub words_of : State → List ℕ
words_of s = word_of_flag s.held ∷ word_of s.timer ∷ word_of_previous s.previous ∷ []

-- ---- an output that lasts for a least time

-- stored timer + gap
abbrev pub lasted : State → Float → Float
lasted s time = s.timer ⊕ gap time s.previous

-- the input differs from the output, and stored timer + gap >= the least time
unfoldable pub flips : Float → State → Float → Bool → Bool
flips least s time input = not (beq input s.held) && le least (lasted s time)

-- `output_and_timer`: the first tick takes its input; after it the output flips exactly then. The timer runs while input and
-- output agree too, and a flip stores 0.0
unfoldable pub output_and_timer : Float → State → Float → Bool → Timed
output_and_timer least s time input =
    cond (is_first s.previous) (timed input 0·0)
    (cond (flips least s time input) (timed (not s.held) 0·0)
    (timed s.held (lasted s time)))

-- ---- a hold

-- previous time unset; the rest zero
abbrev pub initial : State
initial = record { held = false; timer = 0·0; previous = None }

-- the output of a tick is what is held after it
abbrev pub outputs : State → Outputs
outputs after = boolean_output after.held

-- a hold by what is its own: whether its settings are accepted, and its step
abbrev pub hold_of : Bool → (State → Float → Inputs → State) → Stepped State
hold_of accepts advance = record {
  accepts = accepts;
  initial = initial;
  size = 3;
  state_of = state_of;
  words_of = words_of;
  previous = λ s. s.previous;
  output = λ s time i. outputs (advance s time i);
  advance = advance;
}

-- a state has three words
pub counted : (s : State) → length (words_of s) ≡ 3
unfolding words_of
counted s = refl

-- the record of zeros, for which a refused decode stands
abbrev pub zeros : State
zeros = record { held = false; timer = 0·0; previous = Some 0·0 }
