-- A block from words: its number, and its settings in source order. Definitions only.
use Rattle.std.specs.Prelude.{ℕ, Option, Some, None, Bool, ◌&&◌, cond, List, eqb, ltb, length, get_or}
use Rattle.reals.specs.Words.{real_of, flag_of}
use Rattle.controller.specs.declared.config.ControllerType.{ControllerType}
use Rattle.controller.specs.declared.config.ControllerType.TheVariants as type
use Rattle.controller.specs.declared.config.ControllerConfig.{ControllerConfig}
use Rattle.blocks.specs.declared.block.Block.{Block}
use Rattle.blocks.specs.declared.block.Block.TheVariants.{Pid, PidWithReset, MovingAverage, TimerAccumulating, TrueDelay, TrueFalseHold, TrueHoldWithReset, LogicalVariablePulse}

-- the block, if the words are its settings
abbrev pub named : Bool → Block → Option Block
named are b = cond are (Some b) None

-- ---- a controller: its type (0 P, 1 PI, 2 PD, 3 PID), then its eleven numbers and the direction as the settings have them

abbrev pub controller_type_of : ℕ → ControllerType
controller_type_of w = cond (eqb w 1) type.Pi (cond (eqb w 2) type.Pd (cond (eqb w 3) type.Pid type.P))

-- how many settings it has
abbrev pub controller_settings : ℕ
controller_settings = 13

unfoldable pub names_controller : List ℕ → Bool
names_controller w = eqb (length w) controller_settings && ltb (get_or w 0 0) 4

unfoldable pub config_of : List ℕ → ControllerConfig
config_of w = record {
  controller_type = controller_type_of (get_or w 0 0);
  k = real_of (get_or w 1 0);
  ti = real_of (get_or w 2 0);
  td = real_of (get_or w 3 0);
  r = real_of (get_or w 4 0);
  y_max = real_of (get_or w 5 0);
  y_min = real_of (get_or w 6 0);
  ni = real_of (get_or w 7 0);
  nd = real_of (get_or w 8 0);
  xi_start = real_of (get_or w 9 0);
  yd_start = real_of (get_or w 10 0);
  y_reset = real_of (get_or w 11 0);
  reverse_acting = flag_of (get_or w 12 0);
}

-- ---- each block: a real by its bits, a boolean true unless 0

abbrev pub pid_by : List ℕ → Option Block
pid_by w = named (names_controller w) (Pid (config_of w))

abbrev pub pid_with_reset_by : List ℕ → Option Block
pid_with_reset_by w = named (names_controller w) (PidWithReset (config_of w))

abbrev pub average_by : List ℕ → Option Block
average_by w = named (eqb (length w) 1) (MovingAverage (real_of (get_or w 0 0)))

abbrev pub accumulating_by : List ℕ → Option Block
accumulating_by w = named (eqb (length w) 1) (TimerAccumulating (real_of (get_or w 0 0)))

abbrev pub delay_by : List ℕ → Option Block
delay_by w = named (eqb (length w) 2) (TrueDelay (real_of (get_or w 0 0)) (flag_of (get_or w 1 0)))

abbrev pub false_hold_by : List ℕ → Option Block
false_hold_by w = named (eqb (length w) 2) (TrueFalseHold (real_of (get_or w 0 0)) (real_of (get_or w 1 0)))

abbrev pub reset_hold_by : List ℕ → Option Block
reset_hold_by w = named (eqb (length w) 1) (TrueHoldWithReset (real_of (get_or w 0 0)))

abbrev pub pulse_by : List ℕ → Option Block
pulse_by w = named (eqb (length w) 3) (LogicalVariablePulse (real_of (get_or w 0 0)) (real_of (get_or w 1 0)) (real_of (get_or w 2 0)))

-- the number chooses, in document 01's order, the pulse last; another number names nothing
unfoldable pub named_by : ℕ → List ℕ → Option Block
named_by n w =
    cond (eqb n 0) (pid_by w)
    (cond (eqb n 1) (pid_with_reset_by w)
    (cond (eqb n 2) (average_by w)
    (cond (eqb n 3) (accumulating_by w)
    (cond (eqb n 4) (delay_by w)
    (cond (eqb n 5) (false_hold_by w)
    (cond (eqb n 6) (reset_hold_by w)
    (cond (eqb n 7) (pulse_by w)
    None)))))))
