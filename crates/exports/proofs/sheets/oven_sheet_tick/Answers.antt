-- `oven_sheet_tick` is the sheet's. Assumes nothing.
use Rattle.exports.proofs.Crossing.{tick_refused, tick_crosses}
use Rattle.exports.proofs.sheets.oven_sheet_tick.Goals as goal

pub returns-in_default : goal.returns-in_default
returns-in_default c = tick_refused _ c.read_rows.ensures c.in_default.is c.no_sheet.ensures

pub returns : goal.returns
returns c = tick_crosses _ c.read_rows.ensures c.in-Some.is c.tick_by.ensures c.tick.ensures c.into.ensures
