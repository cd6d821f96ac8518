-- `walk_rows` turns to each row in its order. Assumes nothing.
use Rattle.sheet.proofs.Rows.{more_so, end_so}
use Rattle.sheet.proofs.walk_rows.Goals as goal

pub loop-i-preserved : goal.loop-i-preserved
loop-i-preserved g c = more_so _ _ c.args.rows.now _ _ _ _ c.loop-i-test.true c.loop-i.invariant c.turn-walk.ensures

pub returns : goal.returns
returns g c = end_so _ c.args.time c.args.rows.now _ _ _ _ _ c.loop-i-test.false c.loop-i.invariant
