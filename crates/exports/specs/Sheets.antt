-- The sheet's calls over words, by the rows that the words name; words of which a row names no block are refused with 13. Definitions only.
use Rattle.std.specs.Prelude.{ℕ, zero, suc, ◌+◌, ◌/◌, ◌%◌, ◌≡◌, true, false, cond, List, [], ◌∷◌, eqb, ltb, length, get_or, take, drop}
use Rattle.std.specs.Prelude.{Option as Perhaps, Some}
use Rattle.std.specs.Borrow.{Bor}
use Rattle.std.specs.Option.{is_some}
use Rattle.std.proofs.Math.Option.{Option, none, some}
use Rattle.reals.specs.Words.{real_of, word_of_flag}
use Rattle.blocks.specs.Named.{controller_settings, named_by}
use Rattle.blocks.specs.declared.block.Block.{Block}
use Rattle.blocks.specs.declared.block.Tick.{Tick}
use Rattle.sheet.specs.Sheet.{start_said, start_left, tick_said, tick_left, tick_answers}
use Rattle.sheet.specs.Table.{table_rows, rows_of}
use Rattle.sheet.specs.declared.row.Row.{Row}
use Rattle.sheet.specs.declared.row.SheetAnswer.{SheetAnswer}
use Rattle.sheet.specs.declared.table.Table.{Table}
use Rattle.exports.specs.Boundary.{no_block}
use Rattle.exports.specs.Calls.{by_name}
use Rattle.exports.specs.declared.sheets.SheetWords.{SheetWords}

-- ---- what crosses
-- a sheet's answer in words, and the one where a row names no block
unfoldable pub sheet_crossed : SheetAnswer → SheetWords
sheet_crossed a = record { refusal = a.refusal; row = a.row; warning = word_of_flag a.warning }

abbrev pub no_sheet : SheetWords
no_sheet = record { refusal = no_block; row = 0; warning = 0 }

-- a tick: the time by its bits, and the eight words
abbrev pub tick_by : ℕ → List ℕ → Tick
tick_by time words = record { time = real_of time; words = words }

-- ---- a row
-- where its settings begin: behind the block's number and the three columns
abbrev pub settings_at : ℕ
settings_at = 4

-- how many words it has: no block has more settings than a controller
abbrev pub words_per_row : ℕ
words_per_row = settings_at + controller_settings

-- how many of its settings a block of this number reads: all of them a controller, 2 TrueDelay and TrueFalseHold, 3 LogicalVariablePulse, 1 the others
unfoldable pub settings_read : ℕ → ℕ
settings_read n = cond (ltb n 2) controller_settings (cond (eqb n 4) 2 (cond (eqb n 5) 2 (cond (eqb n 7) 3 1)))

-- the block's number, the three columns, and the settings; those that are not read may be any
abbrev pub row_with : List ℕ → Block → Row
row_with w b = record { block = b; first = get_or w 1 0; second = get_or w 2 0; third = get_or w 3 0 }

unfoldable pub row_by : List ℕ → Option Row
row_by w = let n = get_or w 0 0 in by_name (named_by n (take (settings_read n) (drop settings_at w))) (λ b. some (row_with w b)) none

-- ---- all rows
-- below a row
unfoldable pub below : Option Row → Option (List Row) → Option (List Row)
below none rs = none
below (some r) none = none
below (some r) (some rs) = some (r ∷ rs)

-- the first n rows of the words, or nothing if one of them names no block
unfoldable pub rows_by : ℕ → List ℕ → Option (List Row)
rows_by zero w = some []
rows_by (suc n) w = below (row_by (take words_per_row w)) (rows_by n (drop words_per_row w))

-- the rows that words are, if they are whole rows and every row names a block
unfoldable pub rows_named : List ℕ → Option (List Row)
rows_named w = cond (eqb (length w % words_per_row) 0) (rows_by (length w / words_per_row) w) none

-- the rows' own, or what is given where there are none
unfoldable pub by_rows : {X : Type 0} → Option (List Row) → (List Row → X) → X → X
by_rows (some rs) f nothing = f rs
by_rows none f nothing = nothing

-- one without rows, that has all its places
pub record Bare (t : Table) : Type 0 where
  pub none_yet : t.count ≡ 0
  pub places : length t.rows ≡ table_rows

-- such rows, if there are any: as many as a table shows
pub record Tabled (o : Option (List Row)) (shown : Perhaps (Bor (List Row))) : Type 0 where
  pub named : is_some shown ≡ by_rows o (λ rs. true) false
  pub first : (rs : List Row) (lent : Bor (List Row)) → o ≡ some rs → shown ≡ Some lent → lent.now ≡ take table_rows rs

-- ---- the calls: the sheet's over the rows, or 13 and nothing written
pub record StartsBy (o : Option (List Row)) (region : List ℕ) (r : SheetWords) (left : List ℕ) : Type 0 where
  pub answer : r ≡ by_rows o (λ rs. sheet_crossed (start_said rs region)) no_sheet
  pub leaves : left ≡ by_rows o (λ rs. start_left rs region) region

pub record TicksBy (o : Option (List Row)) (k : Tick) (region answers : List ℕ) (r : SheetWords) (left said : List ℕ) : Type 0 where
  pub answer : r ≡ by_rows o (λ rs. sheet_crossed (tick_said k rs region answers)) no_sheet
  pub leaves : left ≡ by_rows o (λ rs. tick_left k rs region answers) region
  pub says : said ≡ by_rows o (λ rs. tick_answers k rs region answers) answers
