-- What a region's words mean, whichever block it is of. Definitions only.
use Rattle.std.specs.Prelude.{ℕ, true, false, List}
use Rattle.pid.specs.Pid as controllers
use Rattle.moving_average.specs.MovingAverage as average
use Rattle.timer_accumulating.specs.TimerAccumulating as accumulating
use Rattle.true_delay.specs.TrueDelay as delay
use Rattle.hold.specs.Hold as holds
use Rattle.logical_variable_pulse.specs.LogicalVariablePulse as pulse
use Rattle.blocks.specs.declared.block.Block.{Block}
use Rattle.blocks.specs.declared.block.Block.TheVariants.{Pid, PidWithReset, MovingAverage, TimerAccumulating, TrueDelay, TrueFalseHold, TrueHoldWithReset, LogicalVariablePulse}
use Rattle.blocks.specs.declared.decoded.State.{State}
use Rattle.blocks.specs.declared.decoded.State.TheVariants as state

-- what a region's words mean to a block
unfoldable pub state_of : Block → List ℕ → State
state_of (Pid s) w = state.Controller (controllers.state_of s.controller_type false w)
state_of (PidWithReset s) w = state.Controller (controllers.state_of s.controller_type true w)
state_of (MovingAverage delta) w = state.MovingAverage (average.state_of w)
state_of (TimerAccumulating t) w = state.TimerAccumulating (accumulating.state_of w)
state_of (TrueDelay time on_init) w = state.TrueDelay (delay.state_of w)
state_of (TrueFalseHold long_true long_false) w = state.Hold (holds.state_of w)
state_of (TrueHoldWithReset duration) w = state.Hold (holds.state_of w)
state_of (LogicalVariablePulse period delta least) w = state.LogicalVariablePulse (pulse.state_of w)

-- its record of zeros
unfoldable pub zeros : Block → State
zeros (Pid s) = state.Controller controllers.zeros
zeros (PidWithReset s) = state.Controller controllers.zeros
zeros (MovingAverage delta) = state.MovingAverage average.zeros
zeros (TimerAccumulating t) = state.TimerAccumulating accumulating.zeros
zeros (TrueDelay time on_init) = state.TrueDelay delay.zeros
zeros (TrueFalseHold long_true long_false) = state.Hold holds.zeros
zeros (TrueHoldWithReset duration) = state.Hold holds.zeros
zeros (LogicalVariablePulse period delta least) = state.LogicalVariablePulse pulse.zeros
