-- A list of stored calls, a call to a line. Definitions only.
use Rattle.std.specs.Prelude.{Result, Ok, Err, ℕ, ◌+◌, ◌-◌, ◌≤◌, List, length, take, drop}
use Rattle.text.specs.Stretches.{up_to}
use Rattle.replay.specs.declared.form.Form.{Form}
use Rattle.replay.specs.declared.compare.Differs.{Differs}
use Rattle.replay.specs.declared.list.Tally.{Tally}
use Rattle.replay.specs.Line.{WordsOf}
use Rattle.replay.specs.Replay.{CallHolds}

-- the line is words, and the block agrees with the call that they store
pub record LineHolds (form : Form) (line : List ℕ) : Type 0 where
  pub words : List ℕ
  pub count : ℕ
  pub reads : WordsOf line count words
  pub holds : CallHolds form (take count words)

-- only of such a line is it said that all is as stored
abbrev pub LineShown : Form → List ℕ → Result (Unit {0}) Differs → Type 0
LineShown form line (Ok same) = LineHolds form line
LineShown form line (Err differs) = Unit {0}

-- how many calls a verdict adds to those that differ
abbrev pub told : Result (Unit {0}) Differs → ℕ
told (Ok same) = 0
told (Err differs) = 1

-- the line that starts at `at` ends before the next byte 10, or with the text
abbrev pub line_end : List ℕ → ℕ → ℕ
line_end lines at = at + up_to 10 (drop at lines)

-- every line from `at` on holds
pub data AllHold : Form → List ℕ → ℕ → Type 0 where
  none : {form : Form} {lines : List ℕ} {at : ℕ} → length lines ≤ at → AllHold form lines at
  some : {form : Form} {lines : List ℕ} {at : ℕ} → LineHolds form (take (line_end lines at - at) (drop at lines))
      → AllHold form lines (line_end lines at + 1) → AllHold form lines at

-- at most this many calls, of which some differ
pub record Counted (most : ℕ) (tally : Tally) : Type 0 where
  pub few : tally.calls ≤ most
  pub differing : tally.differ ≤ tally.calls
