-- `step::passed_now` meets its contract. Assumes nothing.
use mathlib.Core.Path.{sym, ◌∙◌}
use lib.Ieee.{of_bits}
use Rattle.timer_accumulating.proofs.Cases.{passed_wiped, passed_sampled, passed_reached, passed_held}
use Rattle.timer_accumulating.proofs.step.passed_now.Goals as goal

pub returns-then-wipes : goal.returns-then-wipes
unfolding of_bits
returns-then-wipes c = passed_wiped _ _ _ _ _ c.if-wipes.true

pub returns-then-is_rising : goal.returns-then-is_rising
returns-then-is_rising c = passed_sampled _ _ _ _ _ c.if-wipes.false (sym c.is_rising.ensures ∙ c.if-is_rising.true)

pub returns-then-input-y : goal.returns-then-input-y
returns-then-input-y c = passed_reached _ _ _ _ _ c.if-wipes.false (sym c.is_rising.ensures ∙ c.if-is_rising.false) c.if-input-y.true

pub returns : goal.returns
returns c = passed_held _ _ _ _ _ c.if-wipes.false (sym c.is_rising.ensures ∙ c.if-is_rising.false) c.if-input-y.false
