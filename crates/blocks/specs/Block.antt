-- One choice over the eight blocks. Definitions only.
use Rattle.std.specs.Prelude.{ℕ, true, false, List, get_or}
use Rattle.reals.specs.Words.{word_of, word_of_flag}
use Rattle.dynamics.specs.Machine.{Machine, emit_answer, update_answer, updated_words}
use Rattle.dynamics.specs.Answer.{Answer}
use Rattle.dynamics.specs.declared.call.Inputs.{Inputs}
use Rattle.pid.specs.Pid as controllers
use Rattle.moving_average.specs.MovingAverage as average
use Rattle.timer_accumulating.specs.TimerAccumulating as accumulating
use Rattle.true_delay.specs.TrueDelay as delay
use Rattle.true_false_hold.specs.TrueFalseHold as false_hold
use Rattle.true_hold_with_reset.specs.TrueHoldWithReset as reset_hold
use Rattle.logical_variable_pulse.specs.LogicalVariablePulse as pulse
use Rattle.blocks.specs.declared.block.Block.{Block}
use Rattle.blocks.specs.declared.block.Block.TheVariants.{Pid, PidWithReset, MovingAverage, TimerAccumulating, TrueDelay, TrueFalseHold, TrueHoldWithReset, LogicalVariablePulse}
use Rattle.blocks.specs.declared.block.Tick.{Tick}
use Rattle.blocks.specs.declared.block.OutputWords.{OutputWords}

-- each block is its own machine
unfoldable pub machine_of : Block → Machine
machine_of (Pid s) = controllers.machine false s
machine_of (PidWithReset s) = controllers.machine true s
machine_of (MovingAverage delta) = average.machine (record { delta = delta })
machine_of (TimerAccumulating t) = accumulating.machine (record { t = t })
machine_of (TrueDelay time on_init) = delay.machine (record { delay_time = time; delay_on_init = on_init })
machine_of (TrueFalseHold long_true long_false) = false_hold.machine (record { true_hold_duration = long_true; false_hold_duration = long_false })
machine_of (TrueHoldWithReset duration) = reset_hold.machine (record { duration = duration })
machine_of (LogicalVariablePulse period delta least) = pulse.machine (record { period = period; delta_u = delta; min_true_false_hold = least })

-- a block reads its inputs from a tick's first words
unfoldable pub inputs_of : Tick → Inputs
inputs_of k = record { first = get_or k.words 0 0; second = get_or k.words 1 0; third = get_or k.words 2 0 }

-- ---- what a sheet, a session and a record know of a block

-- its number, in document 01's order, the pulse last
abbrev pub number_of : Block → ℕ
number_of (Pid s) = 0
number_of (PidWithReset s) = 1
number_of (MovingAverage delta) = 2
number_of (TimerAccumulating t) = 3
number_of (TrueDelay time on_init) = 4
number_of (TrueFalseHold long_true long_false) = 5
number_of (TrueHoldWithReset duration) = 6
number_of (LogicalVariablePulse period delta least) = 7

-- which outputs it has
pub data Hands : Type 0 where
  real boolean both : Hands

abbrev pub outputs_of : Block → Hands
outputs_of (Pid s) = real
outputs_of (PidWithReset s) = real
outputs_of (MovingAverage delta) = real
outputs_of (TimerAccumulating t) = both
outputs_of (TrueDelay time on_init) = boolean
outputs_of (TrueFalseHold long_true long_false) = boolean
outputs_of (TrueHoldWithReset duration) = boolean
outputs_of (LogicalVariablePulse period delta least) = boolean

-- an answer as two words: the real or boolean output, then the second output or 0
abbrev pub handed : Hands → Answer → OutputWords
handed real a = record { first = word_of a.real; second = 0 }
handed boolean a = record { first = word_of_flag a.boolean; second = 0 }
handed both a = record { first = word_of a.real; second = word_of_flag a.boolean }

abbrev pub answer_words : Block → Answer → OutputWords
answer_words b a = handed (outputs_of b) a

-- what a start writes: exactly the state length
abbrev pub fresh : Block → List ℕ
fresh b = (machine_of b).fresh

-- a whole tick: what the emit answers, what the update answers, and the words left
pub record Ticked : Type 0 where
  pub emitted : Answer
  pub updated : Answer
  pub left : List ℕ

unfoldable pub ticked : Block → Tick → List ℕ → Ticked
ticked b k w = record {
  emitted = emit_answer (machine_of b) k.time (inputs_of k) w;
  updated = update_answer (machine_of b) k.time (inputs_of k) w;
  left = updated_words (machine_of b) k.time (inputs_of k) w;
}
