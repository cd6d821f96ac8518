-- The rows done and those to come give what all rows do. Assumes nothing.
use Rattle.std.proofs.Common.{◌≡◌, drop}
use Rattle.sheet.specs.Walk.{walked, carried, ready}
use Rattle.sheet.proofs.walk_rows.Given as goal

abbrev pub invariant-loop-i : goal.invariant-loop-i
invariant-loop-i g l =
    walked g.P.Pass.turned l.time 0 l.rows (carried ready l.fn.region l.fn.seen) ≡ walked g.P.Pass.turned l.time l.i (drop l.i l.rows) (carried l.walk l.region l.seen)
