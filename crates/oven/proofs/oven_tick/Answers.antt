-- `oven_tick` is a run of one tick. Assumes nothing.
use Rattle.oven.proofs.Single.{no_tick, one_tick}
use mathlib.Core.Path.{refl, ap, ◌∙◌}
use Rattle.exports.specs.Boundary.{answer_crossed}
use Rattle.oven.proofs.oven_tick.Goals as goal

pub returns-then-refusal-ne0 : goal.returns-then-refusal-ne0
returns-then-refusal-ne0 c =
    let ran = c.oven_run-refusal in
    no_tick _ _ _ _ _ _ refl _ ran.ensures c.if-refusal-ne0.true c.refused.ensures

pub returns : goal.returns
returns c = one_tick _ _ _ _ _ _ refl _ c.oven_run-refusal.ensures c.if-refusal-ne0.false
