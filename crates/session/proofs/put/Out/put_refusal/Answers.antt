-- `Out::put_refusal` meets its contract: its pieces are the line. Assumes nothing.
use Rattle.session.proofs.Putting.{puts_more}
use Rattle.session.proofs.put.Out.put_refusal.Goals as goal

pub returns : goal.returns
returns c = puts_more (puts_more c.put_bytes.ensures c.put_decimal.ensures) c.put_byte.ensures
