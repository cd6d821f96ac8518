-- The table of forms agrees with the blocks. Assumes nothing.
use Prim.Native.Nat.{ℕ}
use mathlib.Core.Path.{◌≡◌, refl}
use mathlib.Core.List.{List}
use Rattle.text.specs.Bytes.{bytes, same_list}
use Rattle.blocks.specs.Block.{number_of, Hands, real, boolean, both, outputs_of}
use Rattle.blocks.specs.declared.block.Block.{Block}
use Rattle.blocks.specs.declared.block.Block.TheVariants.{Pid, PidWithReset, MovingAverage, TimerAccumulating, TrueDelay, TrueFalseHold, TrueHoldWithReset, LogicalVariablePulse}
use Rattle.lines.specs.Forms.{rows_before, number_for, form_of}

-- each name leads back to its block's number
pub name_numbers : (b : Block) → number_for (form_of b).name ≡ number_of b
unfolding rows_before same_list
name_numbers (Pid s) = refl
name_numbers (PidWithReset s) = refl
name_numbers (MovingAverage delta) = refl
name_numbers (TimerAccumulating t) = refl
name_numbers (TrueDelay time on_init) = refl
name_numbers (TrueFalseHold long_true long_false) = refl
name_numbers (TrueHoldWithReset duration) = refl
name_numbers (LogicalVariablePulse period delta least) = refl

-- the classes of a block's outputs
abbrev pub classes_of : Hands → List ℕ
classes_of real = bytes "r"
classes_of boolean = bytes "b"
classes_of both = bytes "rb"

pub output_classes : (b : Block) → (form_of b).outputs ≡ classes_of (outputs_of b)
output_classes (Pid s) = refl
output_classes (PidWithReset s) = refl
output_classes (MovingAverage delta) = refl
output_classes (TimerAccumulating t) = refl
output_classes (TrueDelay time on_init) = refl
output_classes (TrueFalseHold long_true long_false) = refl
output_classes (TrueHoldWithReset duration) = refl
output_classes (LogicalVariablePulse period delta least) = refl
