-- `read_rows` reads the rows of its words: after each turn the places show those read so far. Assumes nothing.
use Rattle.std.proofs.Common.{◌≡◌}
use Rattle.std.specs.Slice.Iter.{chunks_exact_rest, chunks_exact_size}
use Rattle.exports.specs.Sheets.{words_per_row}
use Rattle.exports.proofs.Tabling.{Tabling}
use Rattle.exports.proofs.sheets.read_rows.Given as goal

abbrev pub invariant-loop-row : goal.invariant-loop-row
invariant-loop-row l = record {
  tabling : Tabling l.words l.table (chunks_exact_rest l.row-iterator);
  size : chunks_exact_size l.row-iterator ≡ words_per_row;
}
