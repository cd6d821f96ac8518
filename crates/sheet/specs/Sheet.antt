-- The bench sheet: which number a start and a tick of a sheet give, what they answer and what they leave. Definitions only.
use Rattle.std.specs.Prelude.{ℕ, ◌+◌, ◌-◌, ◌*◌, ◌≡◌, Bool, true, false, not, ◌&&◌, ◌||◌, cond, List, [], ◌∷◌, ◌++◌, eqb, ltb, leb, length, get_or, Float}
use Rattle.std.specs.Float.Ieee.Scale.{finite}
use Rattle.dynamics.specs.Previous.{runs_back}
use Rattle.dynamics.specs.Answer.{refusal_of, skipped, accept}
use Rattle.dynamics.specs.Machine.{started_words}
use Rattle.blocks.specs.Block.{machine_of, answer_words, Ticked, ticked}
use Rattle.blocks.specs.declared.block.OutputWords.{OutputWords}
use Rattle.blocks.specs.declared.block.Tick.{Tick}
use Rattle.sheet.specs.declared.row.Row.{Row}
use Rattle.sheet.specs.declared.row.SheetAnswer.{SheetAnswer}
use Rattle.sheet.specs.Rows.{width_of, Placed, placed, every, any_of, first_failing, joined}

-- ---- the sheet's numbers: the most rows, the input words of a tick, and the answer words of a row
abbrev pub most_rows : ℕ
most_rows = 16

abbrev pub input_words : ℕ
input_words = 8

abbrev pub row_answers : ℕ
row_answers = 2

-- ---- the tests, each over all rows

-- 1: 1 to 16 rows, and each column of row n names a word of the tick, or an answer word of a row further up
abbrev pub few_rows : ℕ → Bool
few_rows n = leb 1 n && leb n most_rows

abbrev pub names : ℕ → ℕ → Bool
names n column = ltb column input_words || ltb (column - input_words) (row_answers * n)

abbrev pub in_reach : ℕ → Row → Bool
in_reach n r = names n r.first && (names n r.second && names n r.third)

-- all rows', of which the first is row n
unfoldable pub all_reach : ℕ → List Row → Bool
all_reach n [] = true
all_reach n (r ∷ rs) = in_reach n r && all_reach (n + 1) rs

-- 2: a row's settings
abbrev pub settled : Row → Bool
settled r = (machine_of r.block).accepts

-- 6 and 7: a row's own stretch
abbrev pub decodes : Placed → Bool
decodes p = (machine_of p.row.block).decodes p.words

abbrev pub on_time : Float → Placed → Bool
on_time time p = not (runs_back time ((machine_of p.row.block).previous p.words))

-- ---- the number: that of the first test that fails, 0 if none does
unfoldable pub start_number : List Row → List ℕ → ℕ
start_number rs ws = refusal_of (few_rows (length rs) && all_reach 0 rs) (every settled rs) (eqb (length ws) (width_of rs)) skipped skipped skipped skipped

unfoldable pub tick_number : Float → List Row → List ℕ → List ℕ → ℕ
tick_number time rs ws os =
    refusal_of (few_rows (length rs) && all_reach 0 rs) (every settled rs) (eqb (length ws) (width_of rs)) (eqb (length os) (row_answers * length rs))
    (finite time) (every decodes (placed rs ws)) (every (on_time time) (placed rs ws))

-- the row at fault: for 2, 6 and 7 the topmost, else 0
unfoldable pub row_at_fault : ℕ → Float → List Row → List ℕ → ℕ
row_at_fault n time rs ws =
    cond (eqb n 2) (first_failing settled rs)
    (cond (eqb n 6) (first_failing decodes (placed rs ws))
    (cond (eqb n 7) (first_failing (on_time time) (placed rs ws))
    0))

abbrev pub refusing : ℕ → ℕ → SheetAnswer
refusing n row = record { refusal = n; row = row; warning = false }

-- ---- a start: each block's fresh words
abbrev pub starts_on : Placed → List ℕ
starts_on p = started_words (machine_of p.row.block) p.words

-- the row at fault of a start looks at no time
unfoldable pub start_row : ℕ → List Row → ℕ
start_row n rs = cond (eqb n 2) (first_failing settled rs) 0

-- what a start answers, and the region that it leaves
abbrev pub start_said : List Row → List ℕ → SheetAnswer
start_said rs ws = refusing (start_number rs ws) (start_row (start_number rs ws) rs)

abbrev pub start_left : List Row → List ℕ → List ℕ
start_left rs ws = accept (start_number rs ws) (joined starts_on (placed rs ws)) ws

pub record SheetStarted (rs : List Row) (ws : List ℕ) (r : SheetAnswer) (left : List ℕ) : Type 0 where
  pub answer : r ≡ start_said rs ws
  pub region : left ≡ start_left rs ws

-- ---- a tick: emits run from the top, each on the words that stand in its stretch; then all rows update, each with the inputs that its emit saw
-- the word that a column names: below 8 one of the tick's, from 8 on an answer word of this tick, handed on as its bits
abbrev pub named_word : Tick → List ℕ → ℕ → ℕ
named_word k answers column = cond (ltb column input_words) (get_or k.words column 0) (get_or answers (column - input_words) 0)

-- a row's own tick, where these are the answer words of the rows above it
unfoldable pub row_tick : Tick → List ℕ → Row → Tick
row_tick k above r = record {
  time = k.time;
  words = named_word k above r.first ∷ named_word k above r.second ∷ named_word k above r.third ∷ 0 ∷ 0 ∷ 0 ∷ 0 ∷ 0 ∷ [];
}

-- a row on its stretch, with the tick that it received
pub record Fed : Type 0 where
  pub row : Row
  pub words : List ℕ
  pub received : Tick

-- its block run singly on what it received: its two answer words, whether its update warns, and the words that its update leaves
abbrev pub row_ticked : Fed → Ticked
row_ticked q = ticked q.row.block q.received q.words

abbrev pub two_words : OutputWords → List ℕ
two_words two = two.first ∷ two.second ∷ []

abbrev pub answers_of : Fed → List ℕ
answers_of q = two_words (answer_words q.row.block (row_ticked q).emitted)

abbrev pub warns_of : Fed → Bool
warns_of q = (row_ticked q).updated.warning

abbrev pub left_of : Fed → List ℕ
left_of q = (row_ticked q).left

-- from the top: what a row answers stands above the next one
abbrev pub feed : Tick → List ℕ → Placed → Fed
feed k above p = record { row = p.row; words = p.words; received = row_tick k above p.row }

unfoldable pub fed_below : Tick → List ℕ → List Placed → List Fed
fed_below k above [] = []
fed_below k above (p ∷ ps) = feed k above p ∷ fed_below k (above ++ answers_of (feed k above p)) ps

-- all rows of a sheet, each with what it received
abbrev pub fed : Tick → List Row → List ℕ → List Fed
fed k rs ws = fed_below k [] (placed rs ws)

-- what a tick answers, and the region and the answers that it leaves
unfoldable pub tick_said : Tick → List Row → List ℕ → List ℕ → SheetAnswer
tick_said k rs ws os =
    let n = tick_number k.time rs ws os in
    accept n (record { refusal = 0; row = 0; warning = any_of warns_of (fed k rs ws) }) (refusing n (row_at_fault n k.time rs ws))

abbrev pub tick_left : Tick → List Row → List ℕ → List ℕ → List ℕ
tick_left k rs ws os = accept (tick_number k.time rs ws os) (joined left_of (fed k rs ws)) ws

abbrev pub tick_answers : Tick → List Row → List ℕ → List ℕ → List ℕ
tick_answers k rs ws os = accept (tick_number k.time rs ws os) (joined answers_of (fed k rs ws)) os

pub record SheetTicked (k : Tick) (rs : List Row) (ws os : List ℕ) (r : SheetAnswer) (left out : List ℕ) : Type 0 where
  pub answer : r ≡ tick_said k rs ws os
  pub region : left ≡ tick_left k rs ws os
  pub answers : out ≡ tick_answers k rs ws os
