-- `run_block` leaves the region and the answers of its ticks. Assumes nothing.
use native.Mathlib.Omega.{arith}
use Rattle.runs.proofs.Running.{running_more, running_all}
use Rattle.runs.proofs.loops.run_block.Goals as goal

pub loop-n-preserved : goal.loop-n-preserved
loop-n-preserved g c = running_more _ _ _ _ (omega arith) c.loop-n.invariant c.asked_at-k.ensures c.tick.ensures c.tick.auto.region c.put_answer.ensures

pub returns : goal.returns
returns g c =
    let ran = running_all _ _ _ _ c.loop-n-test.false c.loop-n.invariant in
    record { region_after = ran.0; answers_after = ran.1 }
