-- Demand 3 at the choice over the blocks: which ticks wipe a block, and its account. Definitions only.
use Rattle.std.specs.Prelude.{Bool, true, false, [], T}
use Rattle.std.specs.Float.{binary64}
use Rattle.std.specs.Float.Ieee.{fits}
use Rattle.reals.specs.Words.{0·0}
use Rattle.dynamics.specs.Answer.{both_outputs}
use Rattle.dynamics.specs.History.{Account}
use Rattle.controller.specs.declared.config.ControllerType.{ControllerType}
use Rattle.controller.specs.declared.config.ControllerType.TheVariants.{P, Pi, Pd}
use Rattle.controller.specs.declared.config.ControllerType.TheVariants as type
use Rattle.pid.specs.Account as controllers
use Rattle.timer_accumulating.specs.Account as accumulating
use Rattle.true_delay.specs.Account as delay
use Rattle.true_hold_with_reset.specs.Account as reset_hold
use Rattle.blocks.specs.declared.block.Block.{Block}
use Rattle.blocks.specs.declared.block.Block.TheVariants.{Pid, PidWithReset, MovingAverage, TimerAccumulating, TrueDelay, TrueFalseHold, TrueHoldWithReset, LogicalVariablePulse}

-- the blocks that a tick can wipe: three timers, and the controller with reset in PI mode
abbrev pub is_pi : ControllerType → Bool
is_pi P = false
is_pi Pi = true
is_pi Pd = false
is_pi type.Pid = false

abbrev pub wipeable : Block → Bool
wipeable (Pid s) = false
wipeable (PidWithReset s) = is_pi s.controller_type
wipeable (MovingAverage delta) = false
wipeable (TimerAccumulating t) = true
wipeable (TrueDelay time on_init) = true
wipeable (TrueFalseHold long_true long_false) = false
wipeable (TrueHoldWithReset duration) = true
wipeable (LogicalVariablePulse period delta least) = false

-- those whose answer on a wiping tick tells nothing of the past: the timers; a controller's emit answers from the integrator before its tick
abbrev pub answers_wiping : Block → Bool
answers_wiping (Pid s) = false
answers_wiping (PidWithReset s) = false
answers_wiping (MovingAverage delta) = false
answers_wiping (TimerAccumulating t) = true
answers_wiping (TrueDelay time on_init) = true
answers_wiping (TrueFalseHold long_true long_false) = false
answers_wiping (TrueHoldWithReset duration) = true
answers_wiping (LogicalVariablePulse period delta least) = false

-- of a block that nothing wipes no account is given
abbrev none : Account
none = record { wipes = λ k h. false; wipes_on = λ k w. false; output = λ k h. both_outputs 0·0 false; words = λ h. [] }

-- what a block's history says of it
unfoldable pub account_of : Block → Account
account_of (Pid s) = none
account_of (PidWithReset s) = controllers.account s
account_of (MovingAverage delta) = none
account_of (TimerAccumulating t) = accumulating.account (record { t = t })
account_of (TrueDelay time on_init) = delay.account (record { delay_time = time; delay_on_init = on_init })
account_of (TrueFalseHold long_true long_false) = none
account_of (TrueHoldWithReset duration) = reset_hold.account (record { duration = duration })
account_of (LogicalVariablePulse period delta least) = none

-- the settings that a history's reals come from are f64, as every setting that a call brings is
abbrev pub SettingsF64 : Block → Type 0
SettingsF64 (Pid s) = T true
SettingsF64 (PidWithReset s) = T (fits binary64 s.xi_start)
SettingsF64 (MovingAverage delta) = T true
SettingsF64 (TimerAccumulating t) = T true
SettingsF64 (TrueDelay time on_init) = T (fits binary64 time)
SettingsF64 (TrueFalseHold long_true long_false) = T true
SettingsF64 (TrueHoldWithReset duration) = T true
SettingsF64 (LogicalVariablePulse period delta least) = T true
