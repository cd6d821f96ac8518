-- A sheet whose rows come by value. Definitions only.
use Rattle.std.specs.Prelude.{ℕ, ◌+◌, List, take}
use Rattle.sheet.specs.Sheet.{most_rows}
use Rattle.sheet.specs.declared.row.Row.{Row}
use Rattle.sheet.specs.declared.table.Table.{Table}

-- the rows of a table: its first `count`
abbrev pub rows_of : Table → List Row
rows_of t = take t.count t.rows

-- the places of a table: one more than a sheet may have rows
abbrev pub table_rows : ℕ
table_rows = most_rows + 1
