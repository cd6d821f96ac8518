-- The sheet of document 01, where no row feeds another: every column names a word of the tick. Definitions only.
use Rattle.std.specs.Prelude.{ℕ, ◌*◌, ◌≡◌, Bool, ◌&&◌, List, [], ◌∷◌, eqb, ltb, length, get_or, Float}
use Rattle.std.specs.Float.Ieee.Scale.{finite}
use Rattle.dynamics.specs.Answer.{refusal_of, skipped, accept}
use Rattle.blocks.specs.declared.block.Tick.{Tick}
use Rattle.sheet.specs.declared.row.Row.{Row}
use Rattle.sheet.specs.declared.row.SheetAnswer.{SheetAnswer}
use Rattle.sheet.specs.Rows.{width_of, Placed, placed, every, any_of, joined}
use Rattle.sheet.specs.Sheet.{input_words, row_answers, few_rows, settled, decodes, on_time, start_number, tick_number, row_at_fault, refusing, Fed, answers_of, warns_of, left_of, tick_said, tick_left, tick_answers}

-- no column above 7
abbrev pub unfed : Row → Bool
unfed r = ltb r.first input_words && (ltb r.second input_words && ltb r.third input_words)

-- test 1 asked that of every row; the other tests are as they were
abbrev pub start_number01 : List Row → List ℕ → ℕ
start_number01 rs ws = refusal_of (few_rows (length rs) && every unfed rs) (every settled rs) (eqb (length ws) (width_of rs)) skipped skipped skipped skipped

abbrev pub tick_number01 : Float → List Row → List ℕ → List ℕ → ℕ
tick_number01 time rs ws os =
    refusal_of (few_rows (length rs) && every unfed rs) (every settled rs) (eqb (length ws) (width_of rs)) (eqb (length os) (row_answers * length rs))
    (finite time) (every decodes (placed rs ws)) (every (on_time time) (placed rs ws))

-- a row with the inputs that its columns name among the tick's words
abbrev pub alone : Tick → Placed → Fed
alone k p = record {
  row = p.row;
  words = p.words;
  received = record {
    time = k.time;
    words = get_or k.words p.row.first 0 ∷ get_or k.words p.row.second 0 ∷ get_or k.words p.row.third 0 ∷ 0 ∷ 0 ∷ 0 ∷ 0 ∷ 0 ∷ [];
  };
}

-- what a tick answered and left: each row by itself
abbrev pub tick_said01 : Tick → List Row → List ℕ → List ℕ → SheetAnswer
tick_said01 k rs ws os =
    let n = tick_number01 k.time rs ws os in
    accept n (record { refusal = 0; row = 0; warning = any_of (λ p. warns_of (alone k p)) (placed rs ws) }) (refusing n (row_at_fault n k.time rs ws))

abbrev pub tick_left01 : Tick → List Row → List ℕ → List ℕ → List ℕ
tick_left01 k rs ws os = accept (tick_number01 k.time rs ws os) (joined (λ p. left_of (alone k p)) (placed rs ws)) ws

abbrev pub tick_answers01 : Tick → List Row → List ℕ → List ℕ → List ℕ
tick_answers01 k rs ws os = accept (tick_number01 k.time rs ws os) (joined (λ p. answers_of (alone k p)) (placed rs ws)) os

-- a sheet is that of document 01: a start by its number, on which alone all that it says and leaves depends, and a tick whole
pub record AsIn01 (k : Tick) (rs : List Row) (ws os : List ℕ) : Type 0 where
  pub start : start_number rs ws ≡ start_number01 rs ws
  pub number : tick_number k.time rs ws os ≡ tick_number01 k.time rs ws os
  pub said : tick_said k rs ws os ≡ tick_said01 k rs ws os
  pub left : tick_left k rs ws os ≡ tick_left01 k rs ws os
  pub answers : tick_answers k rs ws os ≡ tick_answers01 k rs ws os
