-- The first seventeen rows stand for all: a sheet of more than sixteen is refused with 1, whatever its rows are. Assumes nothing.
use Prim.Native.Nat.{ℕ, ◌<◌}
use native.Mathlib.Omega.{arith}
use mathlib.Core.Path.{◌≡◌, refl, sym, ◌∙◌}
use mathlib.Core.Bool.{false}
use mathlib.Core.Logic.{⊎_elim}
use mathlib.Core.List.{List}
use borrow.Author.Tests.{ltb-true, ltb-false, le-leb, lt-leb}
use lib.Dec.{ltb}
use lib.ListN.{length, take}
use lib.Seq.{length-take-le, take_all}
use Rattle.dynamics.specs.Answer.{refusal_of, accept}
use Rattle.blocks.specs.declared.block.Tick.{Tick}
use Rattle.sheet.specs.Sheet.{most_rows, few_rows, start_number, start_row, start_said, start_left, SheetStarted, tick_number, row_at_fault, refusing, tick_said, tick_left, tick_answers, SheetTicked}
use Rattle.sheet.specs.Table.{table_rows}
use Rattle.sheet.specs.declared.row.Row.{Row}
use Rattle.sheet.specs.declared.row.SheetAnswer.{SheetAnswer}
use Rattle.sheet.proofs.Stretches.{either}

-- ---- more than sixteen
module _ (rs : List Row) (many : most_rows < length rs) where
  too_many : few_rows (length rs) ≡ false
  too_many = rw (le-leb 1 (length rs) (omega (arith, many)), lt-leb (length rs) most_rows many) refl

  module _ (ws : List ℕ) where
    start_number_lem : start_number rs ws ≡ 1
    unfolding start_number refusal_of
    start_number_lem = simp too_many

    start_said_lem : start_said rs ws ≡ refusing 1 0
    unfolding start_row
    start_said_lem = rw start_number_lem refl

    start_left_lem : start_left rs ws ≡ ws
    unfolding accept
    start_left_lem = rw start_number_lem refl

  module _ (k : Tick) (ws os : List ℕ) where
    tick_number_lem : tick_number k.time rs ws os ≡ 1
    unfolding tick_number refusal_of
    tick_number_lem = simp too_many

    tick_said_lem : tick_said k rs ws os ≡ refusing 1 0
    unfolding tick_said row_at_fault accept
    tick_said_lem = rw tick_number_lem refl

    tick_left_lem : tick_left k rs ws os ≡ ws
    unfolding accept
    tick_left_lem = rw tick_number_lem refl

    tick_answers_lem : tick_answers k rs ws os ≡ os
    unfolding accept
    tick_answers_lem = rw tick_number_lem refl

-- ---- the first seventeen, and all
module _ (rs : List Row) where
  abbrev first : List Row
  first = take table_rows rs

  still_many : table_rows < length rs → most_rows < length first
  still_many h = omega (arith, length-take-le table_rows rs (omega (arith, h)))

  pub started_by_seventeen : (ws : List ℕ) {r : SheetAnswer} {left : List ℕ} → SheetStarted first ws r left → SheetStarted rs ws r left
  started_by_seventeen ws s = ⊎_elim
      (λ e.
      let more = ltb-true table_rows (length rs) e in
      let all : most_rows < length rs = omega (arith, more) in
      let shown = still_many more in
      record {
        answer = s.answer ∙ start_said_lem first shown ws ∙ sym (start_said_lem rs all ws);
        region = s.region ∙ start_left_lem first shown ws ∙ sym (start_left_lem rs all ws);
      })
      (λ e. rw (take_all table_rows rs (ltb-false table_rows (length rs) e)) at s)
      (either (ltb table_rows (length rs)))

  pub ticked_by_seventeen : (k : Tick) (ws os : List ℕ) {r : SheetAnswer} {left out : List ℕ} → SheetTicked k first ws os r left out → SheetTicked k rs ws os r left out
  ticked_by_seventeen k ws os s = ⊎_elim
      (λ e.
      let more = ltb-true table_rows (length rs) e in
      let all : most_rows < length rs = omega (arith, more) in
      let shown = still_many more in
      record {
        answer = s.answer ∙ tick_said_lem first shown k ws os ∙ sym (tick_said_lem rs all k ws os);
        region = s.region ∙ tick_left_lem first shown k ws os ∙ sym (tick_left_lem rs all k ws os);
        answers = s.answers ∙ tick_answers_lem first shown k ws os ∙ sym (tick_answers_lem rs all k ws os);
      })
      (λ e. rw (take_all table_rows rs (ltb-false table_rows (length rs) e)) at s)
      (either (ltb table_rows (length rs)))
