-- A sheet's call over words is the sheet's over the rows that they name, or refused. Assumes nothing.
use Prim.Native.Nat.{ℕ}
use mathlib.Core.Path.{◌≡◌, refl, sym, ◌∙◌, ap}
use mathlib.Core.Bool.{true, false, true≢false}
use mathlib.Core.Option.{Option, none, some}
use mathlib.Core.List.{List}
use Rattle.std.specs.Prelude.{Option as Perhaps, Some, None}
use Rattle.std.specs.Borrow.{Bor}
use Rattle.std.specs.Option.{is_some}
use Rattle.blocks.specs.declared.block.Tick.{Tick}
use Rattle.sheet.specs.Sheet.{SheetStarted, SheetTicked}
use Rattle.sheet.specs.Table.{rows_of}
use Rattle.sheet.specs.declared.row.Row.{Row}
use Rattle.sheet.specs.declared.row.SheetAnswer.{SheetAnswer}
use Rattle.sheet.specs.declared.table.Table.{Table}
use Rattle.sheet.proofs.Seventeen.{started_by_seventeen, ticked_by_seventeen}
use Rattle.exports.specs.Sheets.{sheet_crossed, no_sheet, by_rows, Tabled, StartsBy, TicksBy}
use Rattle.exports.specs.declared.sheets.SheetWords.{SheetWords}

module _ {shown : Perhaps (Bor (List Row))} {x : SheetWords} {ws : List ℕ} where
  -- ---- no rows
  pub start_refused : (o : Option (List Row)) → Tabled o shown → shown ≡ None → x ≡ no_sheet → StartsBy o ws x ws
  unfolding by_rows
  start_refused none is e a = record { answer = a; leaves = refl }
  start_refused (some rs) is e a = absurd (true≢false (sym is.named ∙ ap is_some e))

  pub tick_refused : (o : Option (List Row)) {k : Tick} {os : List ℕ} → Tabled o shown → shown ≡ None → x ≡ no_sheet → TicksBy o k ws os x ws os
  unfolding by_rows
  tick_refused none is e a = record { answer = a; leaves = refl; says = refl }
  tick_refused (some rs) is e a = absurd (true≢false (sym is.named ∙ ap is_some e))

  -- ---- rows
  pub start_crosses : (o : Option (List Row)) {lent : Bor (List Row)} {r : SheetAnswer} {left : List ℕ} → Tabled o shown → shown ≡ Some lent
      → SheetStarted lent.now ws r left → x ≡ sheet_crossed r → StartsBy o ws x left
  unfolding by_rows
  start_crosses none is e s a = absurd (true≢false (sym (ap is_some e) ∙ is.named))
  start_crosses (some rs) {lent} is e s a =
      let all = started_by_seventeen rs ws (rw (is.first rs lent refl e) at s) in
      record { answer = a ∙ ap sheet_crossed all.answer; leaves = all.region }

  pub tick_crosses : (o : Option (List Row)) {lent : Bor (List Row)} {k tick : Tick} {os : List ℕ} {r : SheetAnswer} {left out : List ℕ} → Tabled o shown → shown ≡ Some lent → tick ≡ k
      → SheetTicked tick lent.now ws os r left out → x ≡ sheet_crossed r → TicksBy o k ws os x left out
  unfolding by_rows
  tick_crosses none is e f s a = absurd (true≢false (sym (ap is_some e) ∙ is.named))
  tick_crosses (some rs) {lent} {k} {tick} {os} is e f s a =
      let all = ticked_by_seventeen rs k ws os (rw (f, is.first rs lent refl e) at s) in
      record { answer = a ∙ ap sheet_crossed all.answer; leaves = all.region; says = all.answers }
