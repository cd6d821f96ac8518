-- `oven_sheet_start` is the sheet's. Assumes nothing.
use Rattle.exports.proofs.Crossing.{start_refused, start_crosses}
use Rattle.exports.proofs.sheets.oven_sheet_start.Goals as goal

pub returns-in_default : goal.returns-in_default
returns-in_default c = start_refused _ c.read_rows.ensures c.in_default.is c.no_sheet.ensures

pub returns : goal.returns
returns c = start_crosses _ c.read_rows.ensures c.in-Some.is c.start.ensures c.into.ensures
