-- The record of zeros of every block crosses as zeros. Assumes nothing.
use mathlib.Core.Path.{◌≡◌, refl}
use lib.Ieee.{of_bits, to_bits}
use Rattle.blocks.specs.Decoded.{zeros}
use Rattle.blocks.specs.declared.block.Block.{Block}
use Rattle.blocks.specs.declared.block.Block.TheVariants.{Pid, PidWithReset, MovingAverage, TimerAccumulating, TrueDelay, TrueFalseHold, TrueHoldWithReset, LogicalVariablePulse}
use Rattle.exports.specs.Boundary.{state_words, no_state}

pub zeros_cross : (b : Block) → state_words (zeros b) ≡ no_state 0
unfolding zeros of_bits to_bits
zeros_cross (Pid s) = refl
zeros_cross (PidWithReset s) = refl
zeros_cross (MovingAverage delta) = refl
zeros_cross (TimerAccumulating t) = refl
zeros_cross (TrueDelay time on-init) = refl
zeros_cross (TrueFalseHold long-true long-false) = refl
zeros_cross (TrueHoldWithReset duration) = refl
zeros_cross (LogicalVariablePulse period delta least) = refl
