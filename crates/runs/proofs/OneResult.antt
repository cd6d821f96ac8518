-- The contract of a run admits one number, one region and one list of answers. Assumes nothing.
use mathlib.Core.Path.{sym, ◌∙◌}
use Rattle.reals.proofs.Once.{OnceLeft}
use Rattle.runs.proofs.run.Reads as run

pub run_once : OnceLeft run.Post (λ κs s. s.1.1.0.now)
run_once = record { alike = λ κs a x y s t p q. (p.number ∙ sym q.number, p.leaves ∙ sym q.leaves) }

pub run_once_said : OnceLeft run.Post (λ κs s. s.1.1.1.0.now)
run_once_said = record { alike = λ κs a x y s t p q. (p.number ∙ sym q.number, p.says ∙ sym q.says) }
