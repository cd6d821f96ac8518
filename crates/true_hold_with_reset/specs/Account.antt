-- `TrueHoldWithReset` told from its history: the accepted ticks since the latest start or true clear. Definitions only.
use Rattle.std.specs.Prelude.{◌≡◌, Bool, false, ◌&&◌, ◌||◌, cond, Float}
use Rattle.std.specs.Float.Ieee.{lt}
use Rattle.reals.specs.Words.{0·0, flag_of}
use Rattle.reals.specs.Arithmetic.{◌⊕◌}
use Rattle.dynamics.specs.Previous.{gap}
use Rattle.dynamics.specs.Machine.{Tick}
use Rattle.dynamics.specs.History.{History, started, wiped, followed, previous_in, Account, grown}
use Rattle.hold.specs.Hold.{outputs, words_of}
use Rattle.hold.specs.declared.State.{State}
use Rattle.true_hold_with_reset.specs.declared.TrueHoldWithReset.{TrueHoldWithReset}

-- a tick's two inputs
abbrev pub input_of : Tick → Bool
input_of k = flag_of k.inputs.first

abbrev pub clear_of : Tick → Bool
clear_of k = flag_of k.inputs.second

-- a true clear wipes, whatever came before
abbrev pub wipes : Tick → History → Bool
wipes k h = clear_of k

module _ (b : TrueHoldWithReset) where
  unfoldable mutual
    -- false after a start and on a wiping tick; else true when its input is, or when the hold was true one tick before and the sum since
    -- its run began, through this tick, is below the duration
    pub holding : History → Bool
    holding started = false
    holding (wiped k) = false
    holding (followed h k) = input_of k || (holding h && lt (sum h ⊕ gap k.time (previous_in h)) b.duration)

    -- that sum, from 0.0 and in order, each addition rounded, of the gaps since the run began: 0.0 where it begins
    pub sum : History → Float
    sum started = 0·0
    sum (wiped k) = 0·0
    sum (followed h k) = cond (holding h) (sum h ⊕ gap k.time (previous_in h)) 0·0

  -- document 01's sentence as an equation, over the sum of the history that the tick leaves
  abbrev pub HoldSays : Type 0
  HoldSays = (h : History) (k : Tick) → holding (followed h k) ≡ input_of k || (holding h && lt (sum (followed h k)) b.duration)

  -- the sum is stored while the hold is true, else 0.0
  unfoldable pub state_after : History → State
  state_after h = record { held = holding h; timer = cond (holding h) (sum h) 0·0; previous = previous_in h }

  abbrev pub account : Account
  account = record {
    wipes = wipes;
    wipes_on = λ k w. clear_of k;
    output = λ k h. outputs (state_after (grown wipes h k));
    words = λ h. words_of (state_after h);
  }
