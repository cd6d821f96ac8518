-- `read_rows` reads the rows of its words: after each turn the places show those read so far. Assumes nothing.
use mathlib.Core.Path.{refl, ◌∙◌}
use Rattle.exports.proofs.Tabling.{row_named, row_nothing, tabling_none, tabling_more, tabling_past, tabling_nothing, tabled_odd, tabled_nothing, tabled_all}
use Rattle.exports.proofs.sheets.read_rows.Goals.{then-table-lt-TABLE_ROWS, else-table-lt-TABLE_ROWS}
use Rattle.exports.proofs.sheets.read_rows.Goals as goal

pub returns-then-words-ne0 : goal.returns-then-words-ne0
returns-then-words-ne0 c = tabled_odd _ c.if-words-ne0.true

pub loop-row-init : goal.loop-row-init
loop-row-init c = rw c.into_iter-row-iterator.ensures.into_iter_gives (record {
  tabling = tabling_none _ c.if-words-ne0.false c.requires c.chunks_exact-row-items.ensures.rest;
  size = c.chunks_exact-row-items.ensures.size;
})

pub returns-in_err-block : goal.returns-in_err-block
returns-in_err-block c =
    let (next, whole) = c.in-Some.ensures.steps.1 in
    let nothing = row_nothing _ _ c.settings_read-stop.ensures c.block_of.ensures c.in_err-block.was in
    rw c.from_residual.ensures
    (tabled_nothing _ c.if-words-ne0.false (tabling_nothing _ _ _ c.loop-row.invariant.tabling next (whole ∙ c.loop-row.invariant.size) nothing))

pub loop-row-preserved : goal.loop-row-preserved
loop-row-preserved c =
    let (next, whole) = c.in-Some.ensures.steps.1 in
    let on = c.loop-row.invariant in
    let named = row_named _ _ c.settings_read-stop.ensures c.block_of.ensures c.in_ok-block.was refl in
    record {
      tabling = elim c.if-table-lt-TABLE_ROWS.branch [
        | then-table-lt-TABLE_ROWS w ↦ rw (w.table-is, w.row_with.ensures) (tabling_more _ _ _ on.tabling next (whole ∙ on.size) named)
        | else-table-lt-TABLE_ROWS w ↦ rw w.table-is (tabling_past _ _ _ on.tabling next (whole ∙ on.size) named w.if-table-lt-TABLE_ROWS.false)
      ];
      size = c.in-Some.ensures.steps.0 ∙ on.size;
    }

pub returns : goal.returns
returns c =
    let on = c.loop-row.invariant in
    tabled_all _ c.if-words-ne0.false on.tabling (rw on.size at c.in-None.ensures.steps.1.0) c.shown.ensures
