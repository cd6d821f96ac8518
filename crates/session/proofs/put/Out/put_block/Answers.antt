-- `Out::put_block` meets its contract: its pieces are the line. Assumes nothing.
use Rattle.session.proofs.Putting.{puts_more}
use Rattle.session.proofs.put.Out.put_block.Goals as goal

pub returns : goal.returns
returns c = rw c.name_of.ensures at (puts_more (puts_more c.put_bytes.ensures c.put_bytes-2.ensures) c.put_byte.ensures)
