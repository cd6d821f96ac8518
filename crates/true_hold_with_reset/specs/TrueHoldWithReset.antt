-- `TrueHoldWithReset`: a true output lasts for a least time; clear ends it. Definitions only.
use Rattle.std.specs.Prelude.{Bool, true, false, ◌&&◌, ◌||◌, cond, Float, Some}
use Rattle.std.specs.Float.Ieee.{lt}
use Rattle.std.specs.Float.Ieee.Scale.{finite}
use Rattle.reals.specs.Words.{0·0, flag_of}
use Rattle.dynamics.specs.Previous.{is_first}
use Rattle.dynamics.specs.Leaves.{positive_duration, timed}
use Rattle.dynamics.specs.Machine.{Machine}
use Rattle.dynamics.specs.Stepped.{Stepped, stepped_machine}
use Rattle.dynamics.specs.declared.call.Inputs.{Inputs}
use Rattle.dynamics.specs.declared.leaf.Timed.{Timed}
use Rattle.hold.specs.Hold.{lasted, hold_of}
use Rattle.hold.specs.declared.State.{State}
use Rattle.true_hold_with_reset.specs.declared.TrueHoldWithReset.{TrueHoldWithReset}

-- ---- the step

-- how long a true output has lasted, the gap included; 0.0 for a false one
unfoldable pub run_time : State → Float → Float
run_time s time = cond s.held (lasted s time) 0·0

-- the input is true, or the output is and its run is below the positive duration
unfoldable pub holds : TrueHoldWithReset → State → Float → Bool → Bool
holds b s timer input = input || (s.held && lt timer (positive_duration b.duration))

-- `output_and_timer`: clear comes before the first-tick rule, and a false output stores 0.0
unfoldable pub output_and_timer : TrueHoldWithReset → State → Float → Bool → Bool → Timed
output_and_timer b s time input clear =
    let timer = run_time s time in
    cond clear (timed false 0·0)
    (cond (is_first s.previous) (timed input 0·0)
    (cond (holds b s timer input) (timed true timer)
    (timed false 0·0)))

unfoldable pub next : TrueHoldWithReset → State → Float → Bool → Bool → State
next b s time input clear =
    let o = output_and_timer b s time input clear in
    record { held = o.y; timer = o.timer; previous = Some time }

-- a tick's two inputs are its first words
unfoldable pub advance : TrueHoldWithReset → State → Float → Inputs → State
advance b s time i = next b s time (flag_of i.first) (flag_of i.second)

-- ---- the block

abbrev pub settings_accepted : TrueHoldWithReset → Bool
settings_accepted b = finite b.duration

abbrev pub block : TrueHoldWithReset → Stepped State
block b = hold_of (settings_accepted b) (advance b)

abbrev pub machine : TrueHoldWithReset → Machine
machine b = stepped_machine (block b)
