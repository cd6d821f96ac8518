-- `run_block` leaves the region and the answers of its ticks. Assumes nothing.
use Rattle.runs.proofs.Running.{Running}
use Rattle.runs.proofs.loops.run_block.Given as goal

abbrev pub invariant-loop-n : goal.invariant-loop-n
invariant-loop-n g l = Running (g.B.ControlBlock.machine l.block) l.ticks l.initial.region l.initial.answers l.region l.answers l.n
