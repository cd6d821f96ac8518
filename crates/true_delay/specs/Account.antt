-- `TrueDelay` told from its history: the accepted ticks since the latest start or false input. Definitions only.
use Rattle.std.specs.Prelude.{Bool, false, not, ◌&&◌, ◌||◌, cond, Float}
use Rattle.std.specs.Float.Ieee.{le}
use Rattle.reals.specs.Words.{0·0, flag_of}
use Rattle.reals.specs.Arithmetic.{◌⊕◌}
use Rattle.dynamics.specs.Previous.{gap}
use Rattle.dynamics.specs.Leaves.{positive_duration}
use Rattle.dynamics.specs.Machine.{Tick}
use Rattle.dynamics.specs.History.{History, started, wiped, followed, newest, previous_in, Account, grown}
use Rattle.true_delay.specs.TrueDelay.{outputs, words_of}
use Rattle.true_delay.specs.declared.TrueDelay.{TrueDelay}
use Rattle.true_delay.specs.declared.state.State.{State}

-- a tick's input
abbrev pub input_of : Tick → Bool
input_of k = flag_of k.inputs.first

-- the newest tick's; false after a start
abbrev pub input_in : History → Bool
input_in h = newest false input_of h

-- a false input wipes, so a tick that follows has a true one
abbrev pub wipes : Tick → History → Bool
wipes k h = not (input_of k)

-- the sum, from 0.0 and in order, each addition rounded, of the gaps since the input rose, 0.0 where it rises
unfoldable pub sum : History → Float
sum started = 0·0
sum (wiped k) = 0·0
sum (followed h k) = cond (input_in h) (sum h ⊕ gap k.time (previous_in h)) 0·0

module _ (b : TrueDelay) where
  abbrev pub delay : Float
  delay = positive_duration b.delay_time

  -- without delay_on_init a true first input passes at once, and stays so until the input is false
  unfoldable pub at_once : History → Bool
  at_once started = not b.delay_on_init
  at_once (wiped k) = false
  at_once (followed h k) = at_once h

  -- the output: true when the input is true, and the sum reaches the delay or it passes at once
  unfoldable pub passes : History → Bool
  passes h = input_in h && (at_once h || le delay (sum h))

  -- the stored timer: the sum, and the delay where the output was true one tick before or passes at once
  unfoldable pub timer : History → Float
  timer started = 0·0
  timer (wiped k) = 0·0
  timer (followed h k) = cond (at_once h || passes h) delay (sum (followed h k))

  unfoldable pub state_after : History → State
  state_after h = record { timer = timer h; previous = previous_in h; input = input_in h; held = passes h }

  abbrev pub account : Account
  account = record {
    wipes = wipes;
    wipes_on = λ k w. not (input_of k);
    output = λ k h. outputs (state_after (grown wipes h k));
    words = λ h. words_of (state_after h);
  }
