-- `TrueFalseHold`: each value of the output lasts for a least time. Definitions only.
use Rattle.std.specs.Prelude.{Bool, ◌&&◌, cond, Float, Some}
use Rattle.std.specs.Float.Ieee.Scale.{finite}
use Rattle.reals.specs.Words.{flag_of}
use Rattle.dynamics.specs.Leaves.{positive_duration}
use Rattle.dynamics.specs.Machine.{Machine}
use Rattle.dynamics.specs.Stepped.{Stepped, stepped_machine}
use Rattle.dynamics.specs.declared.call.Inputs.{Inputs}
use Rattle.hold.specs.Hold.{output_and_timer, hold_of}
use Rattle.hold.specs.declared.State.{State}
use Rattle.true_false_hold.specs.declared.TrueFalseHold.{TrueFalseHold}

-- ---- the step

-- the positive duration of the present output
unfoldable pub required : TrueFalseHold → Bool → Float
required b held = cond held (positive_duration b.true_hold_duration) (positive_duration b.false_hold_duration)

-- the present output lasts for its positive duration
unfoldable pub next : TrueFalseHold → State → Float → Bool → State
next b s time input =
    let o = output_and_timer (required b s.held) s time input in
    record { held = o.y; timer = o.timer; previous = Some time }

-- a tick's input is its first word
unfoldable pub advance : TrueFalseHold → State → Float → Inputs → State
advance b s time i = next b s time (flag_of i.first)

-- ---- the block

abbrev pub settings_accepted : TrueFalseHold → Bool
settings_accepted b = finite b.true_hold_duration && finite b.false_hold_duration

abbrev pub block : TrueFalseHold → Stepped State
block b = hold_of (settings_accepted b) (advance b)

abbrev pub machine : TrueFalseHold → Machine
machine b = stepped_machine (block b)
