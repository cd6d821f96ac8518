-- `decimal::decimal_text` meets its contract: the digits from `start` on are spelled, those of `rest` are still to be. Assumes nothing.
use Rattle.text.proofs.Spelling.{Spelling}
use Rattle.text.proofs.decimal.decimal_text.Given as goal

abbrev pub invariant-loop-start : goal.invariant-loop-start
invariant-loop-start l = Spelling l.n l.digits l.start l.rest
