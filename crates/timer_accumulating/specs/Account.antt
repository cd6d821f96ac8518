-- `TimerAccumulating` told from its history: the accepted ticks since the latest start or rising reset. Definitions only.
use Rattle.std.specs.Prelude.{Bool, false, ◌&&◌, cond, get_or, Float}
use Rattle.std.specs.Float.Ieee.{le}
use Rattle.reals.specs.Words.{0·0, flag_of}
use Rattle.reals.specs.Arithmetic.{◌⊕◌}
use Rattle.dynamics.specs.Previous.{gap}
use Rattle.dynamics.specs.Leaves.{rising}
use Rattle.dynamics.specs.Machine.{Tick}
use Rattle.dynamics.specs.History.{History, started, wiped, followed, newest, previous_in, Account, grown}
use Rattle.timer_accumulating.specs.TimerAccumulating.{outputs, words_of}
use Rattle.timer_accumulating.specs.declared.TimerAccumulating.{TimerAccumulating}
use Rattle.timer_accumulating.specs.declared.state.State.{State}

-- a tick's two inputs
abbrev pub input_of : Tick → Bool
input_of k = flag_of k.inputs.first

abbrev pub reset_of : Tick → Bool
reset_of k = flag_of k.inputs.second

-- the newest tick's; false after a start
abbrev pub input_in : History → Bool
input_in h = newest false input_of h

abbrev pub reset_in : History → Bool
reset_in h = newest false reset_of h

-- a reset that stays true wipes once
abbrev pub wipes : Tick → History → Bool
wipes k h = rising (reset_of k) (reset_in h)

-- the sum, from 0.0 and in order, each addition rounded, of the gaps whose both ends had a true input
unfoldable pub total : History → Float
total started = 0·0
total (wiped k) = 0·0
total (followed h k) = cond (input_in h && input_of k) (total h ⊕ gap k.time (previous_in h)) (total h)

module _ (b : TimerAccumulating) where
  -- passed is sum >= t
  unfoldable pub state_after : History → State
  state_after h = record { total = total h; previous = previous_in h; input = input_in h; reset = reset_in h; passed = le b.t (total h) }

  abbrev pub account : Account
  account = record {
    wipes = wipes;
    wipes_on = λ k w. rising (reset_of k) (flag_of (get_or w 3 0));
    output = λ k h. outputs (state_after (grown wipes h k));
    words = λ h. words_of (state_after h);
  }
