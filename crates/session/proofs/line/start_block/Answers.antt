-- `line::start_block` meets its contract: the start is not refused. Assumes nothing.
use native.Mathlib.Omega.{arith}
use Rattle.blocks.specs.Block.{machine_of}
use Rattle.session.proofs.Starting.{starts}
use Rattle.session.proofs.line.start_block.Goals as goal

pub unwrap-requires : goal.unwrap-requires
unwrap-requires c = starts (machine_of c.args.block) c.args.n c.args.region.now c.start.result c.requires.length (omega arith) c.start.ensures.answers
