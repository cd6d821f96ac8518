-- `Out::put_outputs` meets its contract: a real and a boolean have a space between. Assumes nothing.
use Rattle.session.specs.Answers.{output_text, outputs_text}
use Rattle.session.proofs.Putting.{puts_more}
use Rattle.session.proofs.put.Out.put_outputs.Goals as goal

pub returns-in-TimerAccumulating : goal.returns-in-TimerAccumulating
unfolding outputs_text output_text
returns-in-TimerAccumulating c = rw c.in-TimerAccumulating.is (puts_more (puts_more c.put_real-in-TimerAccumulating.ensures c.put_byte.ensures) c.put_boolean.ensures)
