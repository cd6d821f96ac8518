-- Document 01's bench table, P1 to P11. Definitions only.
use Rattle.std.specs.Prelude.{ℕ, Bool, true, false, List, [], ◌∷◌, replicate, Float}
use Prim.Native.String.{String}
use Rattle.std.specs.Float.{nan, inf}
use Rattle.reals.specs.Words.{0·0, 1·0, nearest, word_of, word_of_flag}
use Rattle.reals.specs.Arithmetic.{◌⊕◌, ◌⊘◌}
use Rattle.dynamics.specs.Answer.{Outputs, real_output, boolean_output, silent, emitted, updated, answered}
use Rattle.controller.specs.declared.config.ControllerType.{ControllerType}
use Rattle.controller.specs.declared.config.ControllerType.TheVariants.{P, Pi}
use Rattle.controller.specs.declared.config.ControllerConfig.{ControllerConfig}
use Rattle.blocks.specs.Block.{fresh}
use Rattle.blocks.specs.declared.block.Block.{Block}
use Rattle.blocks.specs.declared.block.Block.TheVariants.{Pid, PidWithReset, MovingAverage, TrueDelay, TrueFalseHold}
use Rattle.blocks.specs.declared.block.Tick.{Tick}
use Rattle.sheet.specs.Sheet.{refusing}
use Rattle.bench_table.specs.Trials.{Trial, ticks_on, length_of, sheet_start, sheet_tick, Answers, Said, answers, length_told, sheet_started, sheet_ticked, BenchRow}

-- ---- the table's numbers
abbrev 0·25 : Float
0·25 = nearest 1 4

abbrev 0·5 : Float
0·5 = nearest 1 2

abbrev 0·75 : Float
0·75 = nearest 3 4

abbrev 2·0 : Float
2·0 = nearest 2 1

abbrev 3·0 : Float
3·0 = nearest 3 1

abbrev 4·0 : Float
4·0 = nearest 4 1

abbrev +∞ : Float
+∞ = inf false

-- ---- ticks: of a timer, of a controller, of a moving average
abbrev brings : Float → (first second third : ℕ) → Tick
brings time first second third = record { time = time; words = first ∷ second ∷ third ∷ 0 ∷ 0 ∷ 0 ∷ 0 ∷ 0 ∷ [] }

abbrev at : Float → Bool → Tick
at time input = brings time (word_of_flag input) 0 0

abbrev against : Float → (u_s u_m : Float) → (trigger : Bool) → Tick
against time u_s u_m trigger = brings time (word_of u_s) (word_of u_m) (word_of_flag trigger)

abbrev feeds : Float → Float → Tick
feeds time u = brings time (word_of u) 0 0

-- ---- answers: of an accepted tick, which does not warn, and of a refused one
abbrev gives : Outputs → Answers
gives o = record { emit = emitted o; update = updated false; tick = answered o false }

abbrev real : Float → Answers
real x = gives (real_output x)

abbrev flag : Bool → Answers
flag b = gives (boolean_output b)

abbrev refused : ℕ → Answers
refused n = record { emit = silent n; update = silent n; tick = silent n }

-- ---- blocks
abbrev delay : Block
delay = TrueDelay 2·0 false

-- dir 1, r 1, limits 0 and 1, start 0; td, nd and yd_start have no part in P and PI
abbrev controller : ControllerType → (k ti ni y_reset : Float) → ControllerConfig
controller type k ti ni y_reset = record {
  controller_type = type;
  k = k;
  ti = ti;
  td = nearest 1 10;
  r = 1·0;
  y_max = 1·0;
  y_min = 0·0;
  ni = ni;
  nd = nearest 10 1;
  xi_start = 0·0;
  yd_start = 0·0;
  y_reset = y_reset;
  reverse_acting = true;
}

abbrev proportional : Block
proportional = Pid (controller P 2·0 0·5 (nearest 9 10) 0·0)

abbrev integrating : ControllerConfig
integrating = controller Pi 1·0 0·5 (nearest 9 10) 0·75

abbrev average : Block
average = MovingAverage 2·0

abbrev hold : Block
hold = TrueFalseHold 2·0 2·0

-- previous time infinite; ring head at the capacity
abbrev bad_time : List ℕ
bad_time = 0 ∷ word_of +∞ ∷ 0 ∷ 0 ∷ []

abbrev bad_head : List ℕ
bad_head = 0 ∷ 0 ∷ 0 ∷ 2052 ∷ replicate 4106 0

-- ---- the table
abbrev from_fresh : Block → List Tick → Trial
from_fresh b ks = ticks_on b (fresh b) ks

abbrev row : String → Trial → Said → BenchRow
row name trial due = record { name = name; trial = trial; due = due }

abbrev five_ticks : List Tick → List Tick
five_ticks more = at 0·0 true ∷ at 1·0 false ∷ at 2·0 true ∷ at 3·0 true ∷ at 4·0 true ∷ more

abbrev five_answers : List Answers → List Answers
five_answers more = flag true ∷ flag false ∷ flag false ∷ flag false ∷ flag true ∷ more

abbrev three_ticks : (trigger : Bool) → List Tick → List Tick
three_ticks trigger more = against 0·0 0·5 0·25 false ∷ against 2·0 0·5 0·25 false ∷ against 3·0 0·5 0·25 trigger ∷ more

abbrev three_answers : List Answers → List Answers
three_answers more = real 0·25 ∷ real 0·25 ∷ real 1·0 ∷ more

abbrev long : ℕ → Said
long n = length_told (record { refusal = 0; length = n })

abbrev pub table : List BenchRow
table =
    row "P1" (from_fresh delay (five_ticks [])) (answers (five_answers []))
    ∷ row "P2" (from_fresh delay (five_ticks (at 3·0 true ∷ []))) (answers (five_answers (refused 7 ∷ [])))
    ∷ row "P3" (from_fresh proportional (against 0·0 0·5 0·25 false ∷ [])) (answers (real 0·5 ∷ []))
    ∷ row "P4" (from_fresh (Pid integrating) (three_ticks false [])) (answers (three_answers []))
    ∷ row "P5" (from_fresh (PidWithReset integrating) (three_ticks true (against 4·0 0·5 0·25 true ∷ []))) (answers (three_answers (real 0·75 ∷ [])))
    ∷ row "P6" (from_fresh proportional (against 0·0 nan 0·25 false ∷ [])) (answers (real nan ∷ []))
    ∷ row "P7" (length_of (MovingAverage (nearest 1024 1))) (long 4110)
    ∷ row "P7" (length_of (MovingAverage (nearest 2049 2))) (long 4114)
    ∷ row "P7" (length_of (MovingAverage (nearest 65536 1))) (long 262158)
    ∷ row "P8" (from_fresh average (feeds 0·0 3·0 ∷ feeds 1·0 3·0 ∷ feeds 2·0 3·0 ∷ [])) (answers (real 0·0 ∷ real (3·0 ⊘ (1·0 ⊕ nearest 1 1000)) ∷ real 3·0 ∷ []))
    ∷ row "P9" (from_fresh hold (at 0·0 true ∷ at 1·0 false ∷ at 2·0 false ∷ [])) (answers (flag true ∷ flag true ∷ flag false ∷ []))
    ∷ row "P10" (ticks_on delay bad_time (at +∞ true ∷ at 0·0 true ∷ [])) (answers (refused 5 ∷ refused 6 ∷ []))
    ∷ row "P10" (ticks_on average bad_head (feeds +∞ 3·0 ∷ feeds 0·0 3·0 ∷ [])) (answers (refused 5 ∷ refused 6 ∷ []))
    ∷ row "P11" (sheet_start [] (7 ∷ [])) (sheet_started (refusing 1 0) (7 ∷ []))
    ∷ row "P11" (sheet_tick [] (7 ∷ []) (8 ∷ 9 ∷ []) (at 0·0 true)) (sheet_ticked (refusing 1 0) (7 ∷ []) (8 ∷ 9 ∷ []))
    ∷ []
