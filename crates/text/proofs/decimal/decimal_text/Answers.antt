-- `decimal::decimal_text` meets its contract: the digits from `start` on are spelled, those of `rest` are still to be. Assumes nothing.
use native.Mathlib.Omega.{arith}
use lib.ListN.{length-set}
use Rattle.text.proofs.Padding.{zeros_padded}
use Rattle.text.proofs.Spelling.{spelling_none, spelling_left, spelling_next, spelling_last, spelling_zeros, spelling_room}
use Rattle.text.proofs.decimal.decimal_text.Goals as goal

pub loop-start-init : goal.loop-start-init
loop-start-init c = spelling_none c.args.n c.ranges.n.fits

pub invariant_of-result : goal.invariant_of-result
invariant_of-result c =
    let s = c.loop-start.invariant in
    zeros_padded (spelling_zeros (spelling_left s c.loop-start-test.true) (omega arith)) (simp length-set s.size)

pub returns-then-rest-eq0 : goal.returns-then-rest-eq0
returns-then-rest-eq0 c = spelling_last (spelling_left c.loop-start.invariant c.loop-start-test.true) (omega arith) c.if-rest-eq0.true

pub loop-start-preserved : goal.loop-start-preserved
loop-start-preserved c = spelling_next (spelling_left c.loop-start.invariant c.loop-start-test.true) (omega arith) (omega arith)

pub unreachable-requires : goal.unreachable-requires
unreachable-requires c = spelling_room c.loop-start.invariant (omega arith)
