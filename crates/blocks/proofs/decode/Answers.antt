-- `decode` is the chosen block's. Assumes nothing.
use mathlib.Core.Path.{refl}
use Rattle.blocks.specs.Block.{machine_of}
use Rattle.blocks.specs.Decoded.{state_of}
use Rattle.blocks.specs.declared.decoded.State.TheVariants as variant
use Rattle.blocks.proofs.Decoding.{refused, taken}
use Rattle.blocks.proofs.decode.Goals as goal

pub returns-in_err-decode-in-Pid : goal.returns-in_err-decode-in-Pid
unfolding machine_of
returns-in_err-decode-in-Pid c = refused c.in-Pid.is c.args.region.now c.in_err-decode-in-Pid.ensures.value c.from_residual.ensures.1

pub returns-in_ok-decode-in-Pid : goal.returns-in_ok-decode-in-Pid
unfolding machine_of state_of
returns-in_ok-decode-in-Pid c = taken c.in-Pid.is c.args.region.now variant.Controller refl c.in_ok-decode-in-Pid.ensures.value c.into.ensures

pub returns-in_err-decode-in-PidWithReset : goal.returns-in_err-decode-in-PidWithReset
unfolding machine_of
returns-in_err-decode-in-PidWithReset c = refused c.in-PidWithReset.is c.args.region.now c.in_err-decode-in-PidWithReset.ensures.value c.from_residual-in_err-decode-in-PidWithReset.ensures.1

pub returns-in_ok-decode-in-PidWithReset : goal.returns-in_ok-decode-in-PidWithReset
unfolding machine_of state_of
returns-in_ok-decode-in-PidWithReset c = taken c.in-PidWithReset.is c.args.region.now variant.Controller refl c.in_ok-decode-in-PidWithReset.ensures.value c.into-in-PidWithReset.ensures

pub returns-in_err-decode-in-MovingAverage : goal.returns-in_err-decode-in-MovingAverage
unfolding machine_of
returns-in_err-decode-in-MovingAverage c = let v = c.in_err-decode-in-MovingAverage.ensures.value in refused c.in-MovingAverage.is c.args.region.now (rw c.windowed-own.ensures at v) c.from_residual-in_err-decode-in-MovingAverage.ensures.1

pub returns-in_ok-decode-in-MovingAverage : goal.returns-in_ok-decode-in-MovingAverage
unfolding machine_of state_of
returns-in_ok-decode-in-MovingAverage c = let v = c.in_ok-decode-in-MovingAverage.ensures.value in taken c.in-MovingAverage.is c.args.region.now variant.MovingAverage refl (rw c.windowed-own.ensures at v) c.into-in-MovingAverage.ensures

pub returns-in_err-decode-in-TimerAccumulating : goal.returns-in_err-decode-in-TimerAccumulating
unfolding machine_of
returns-in_err-decode-in-TimerAccumulating c = refused c.in-TimerAccumulating.is c.args.region.now c.in_err-decode-in-TimerAccumulating.ensures.value c.from_residual-in_err-decode-in-TimerAccumulating.ensures.1

pub returns-in_ok-decode-in-TimerAccumulating : goal.returns-in_ok-decode-in-TimerAccumulating
unfolding machine_of state_of
returns-in_ok-decode-in-TimerAccumulating c = taken c.in-TimerAccumulating.is c.args.region.now variant.TimerAccumulating refl c.in_ok-decode-in-TimerAccumulating.ensures.value c.into-in-TimerAccumulating.ensures

pub returns-in_err-decode-in-TrueDelay : goal.returns-in_err-decode-in-TrueDelay
unfolding machine_of
returns-in_err-decode-in-TrueDelay c = refused c.in-TrueDelay.is c.args.region.now c.in_err-decode-in-TrueDelay.ensures.value c.from_residual-in_err-decode-in-TrueDelay.ensures.1

pub returns-in_ok-decode-in-TrueDelay : goal.returns-in_ok-decode-in-TrueDelay
unfolding machine_of state_of
returns-in_ok-decode-in-TrueDelay c = taken c.in-TrueDelay.is c.args.region.now variant.TrueDelay refl c.in_ok-decode-in-TrueDelay.ensures.value c.into-in-TrueDelay.ensures

pub returns-in_err-decode-in-TrueFalseHold : goal.returns-in_err-decode-in-TrueFalseHold
unfolding machine_of
returns-in_err-decode-in-TrueFalseHold c = refused c.in-TrueFalseHold.is c.args.region.now c.in_err-decode-in-TrueFalseHold.ensures.value c.from_residual-in_err-decode-in-TrueFalseHold.ensures.1

pub returns-in_ok-decode-in-TrueFalseHold : goal.returns-in_ok-decode-in-TrueFalseHold
unfolding machine_of state_of
returns-in_ok-decode-in-TrueFalseHold c = taken c.in-TrueFalseHold.is c.args.region.now variant.Hold refl c.in_ok-decode-in-TrueFalseHold.ensures.value c.into-in-TrueFalseHold.ensures

pub returns-in_err-decode-in-TrueHoldWithReset : goal.returns-in_err-decode-in-TrueHoldWithReset
unfolding machine_of
returns-in_err-decode-in-TrueHoldWithReset c = refused c.in-TrueHoldWithReset.is c.args.region.now c.in_err-decode-in-TrueHoldWithReset.ensures.value c.from_residual-in_err-decode-in-TrueHoldWithReset.ensures.1

pub returns-in_ok-decode-in-TrueHoldWithReset : goal.returns-in_ok-decode-in-TrueHoldWithReset
unfolding machine_of state_of
returns-in_ok-decode-in-TrueHoldWithReset c = taken c.in-TrueHoldWithReset.is c.args.region.now variant.Hold refl c.in_ok-decode-in-TrueHoldWithReset.ensures.value c.into-in-TrueHoldWithReset.ensures

pub returns-in_err-decode-in-LogicalVariablePulse : goal.returns-in_err-decode-in-LogicalVariablePulse
unfolding machine_of
returns-in_err-decode-in-LogicalVariablePulse c = refused c.in-LogicalVariablePulse.is c.args.region.now c.in_err-decode-in-LogicalVariablePulse.ensures.value c.from_residual-in_err-decode-in-LogicalVariablePulse.ensures.1

pub returns-in_ok-decode-in-LogicalVariablePulse : goal.returns-in_ok-decode-in-LogicalVariablePulse
unfolding machine_of state_of
returns-in_ok-decode-in-LogicalVariablePulse c = taken c.in-LogicalVariablePulse.is c.args.region.now variant.LogicalVariablePulse refl c.in_ok-decode-in-LogicalVariablePulse.ensures.value c.into-in-LogicalVariablePulse.ensures
