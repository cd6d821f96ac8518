-- Each public function's contract admits one result only, and one region. Assumes nothing.
use Rattle.reals.proofs.Once.{Once, OnceLeft, equation_once, left_once}
use Rattle.hold.proofs.State.fresh.Reads as fresh
use Rattle.hold.proofs.State.read.Reads as read
use Rattle.hold.proofs.State.write.Reads as write
use Rattle.hold.proofs.step.output_and_timer.Reads as output_and_timer

pub fresh_once : Once fresh.Post
fresh_once = equation_once

pub read_once : Once read.Post
read_once = equation_once

pub write_once : OnceLeft write.Post (λ κs s. s.1.0.now)
write_once = left_once

pub output_and_timer_once : Once output_and_timer.Post
output_and_timer_once = equation_once
