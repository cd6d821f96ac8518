-- `run` is refused by its number, or runs. Assumes nothing.
use mathlib.Core.Path.{refl, sym, ◌∙◌}
use Rattle.runs.proofs.Ending.{some_number, room_each, refused, accepted}
use Rattle.runs.proofs.run.Goals as goal

pub returns-in-Err : goal.returns-in-Err
returns-in-Err c = refused _ _ _ _ (c.from.ensures ∙ c.in-Err.ensures) (λ z. some_number c.in-Err.no (sym c.from.ensures ∙ z))

pub run_ticks-requires : goal.run_ticks-requires
run_ticks-requires c = room_each _ _ _ _ c.in_default.ensures refl

pub returns : goal.returns
returns c = accepted _ _ _ _ c.in_default.ensures refl c.run_ticks.ensures.region_after c.run_ticks.ensures.answers_after
