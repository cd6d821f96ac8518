-- `Out::put_answer` meets its contract: the outputs and the line's end are the line. Assumes nothing.
use native.Mathlib.Omega.{arith}
use Rattle.dynamics.specs.Answer.{said}
use Rattle.session.specs.Answers.{answer_text}
use Rattle.session.proofs.Putting.{puts_more}
use Rattle.session.proofs.Short.{outputs_short}
use Rattle.session.proofs.put.Out.put_answer.Goals as goal

pub put_byte-requires : goal.put_byte-requires
put_byte-requires c = let put = c.put_outputs.ensures in omega (arith, c.requires, put.size, put.put.moved, outputs_short c.args.block (said c.args.reply))

pub returns : goal.returns
unfolding answer_text
returns c = puts_more c.put_outputs.ensures c.put_byte.ensures
