-- Each call's contract admits one result only, one region, and of a run one list of answers. Assumes nothing.
use mathlib.Core.Path.{sym, ◌∙◌}
use Rattle.reals.proofs.Once.{OnceLeft}
use Rattle.dynamics.proofs.Calls.{one_result}
use Rattle.oven.proofs.oven_start.Reads as start
use Rattle.oven.proofs.oven_tick.Reads as tick
use Rattle.oven.proofs.oven_run.Reads as run

pub start_once : OnceLeft start.Post (λ κs s. s.1.1.0.now)
start_once = one_result

pub tick_once : OnceLeft tick.Post (λ κs s. s.1.1.1.1.1.1.0.now)
tick_once = one_result

pub run_once : OnceLeft run.Post (λ κs s. s.1.1.1.0.now)
run_once = record { alike = λ κs a x y s t p q. (p.number ∙ sym q.number, p.leaves ∙ sym q.leaves) }

pub run_once_said : OnceLeft run.Post (λ κs s. s.1.1.1.1.0.now)
run_once_said = record { alike = λ κs a x y s t p q. (p.number ∙ sym q.number, p.says ∙ sym q.says) }
