-- How the calls of a block are stored. Definitions only.
use Rattle.std.specs.Prelude.{ℕ, ◌≤◌, List}
use Rattle.text.specs.Bytes.{bytes}
use Rattle.blocks.specs.Named.{controller_settings}
use Rattle.replay.specs.declared.form.Form.{Form}
use Rattle.replay.specs.declared.form.Kind.{Kind}
use Rattle.replay.specs.declared.form.Kind.TheVariants as kind

-- no block has more settings or inputs
pub record Sized (form : Form) : Type 0 where
  pub settings : form.settings ≤ controller_settings
  pub inputs : form.inputs ≤ 3

-- the file that has a block's calls
abbrev pub file_of : Kind → List ℕ
file_of kind.Pid = bytes "Pid.txt"
file_of kind.PidWithReset = bytes "PidWithReset.txt"
file_of kind.MovingAverage = bytes "MovingAverage.txt"
file_of kind.TimerAccumulating = bytes "TimerAccumulating.txt"
file_of kind.TrueDelay = bytes "TrueDelay.txt"
file_of kind.TrueFalseHold = bytes "TrueFalseHold.txt"
file_of kind.TrueHoldWithReset = bytes "TrueHoldWithReset.txt"
file_of kind.LogicalVariablePulse = bytes "LogicalVariablePulse.txt"
