-- `step::output_and_timer` meets its contract. Assumes nothing.
use mathlib.Core.Path.{sym, ◌∙◌}
use lib.Ieee.{of_bits}
use Rattle.true_hold_with_reset.proofs.Cases.{cleared, first, held_on, over}
use Rattle.true_hold_with_reset.proofs.step.output_and_timer.Goals as goal

pub returns-then-clear : goal.returns-then-clear
unfolding of_bits
returns-then-clear c = cleared _ _ _ _ _ c.if-clear.true

pub returns-then-first : goal.returns-then-first
unfolding of_bits
returns-then-first c = first _ _ _ _ _ c.if-clear.false (sym c.is_first_tick-first.ensures ∙ c.if-first.true)

pub returns-then-is_true : goal.returns-then-is_true
returns-then-is_true c = held_on _ _ _ _ _ c.if-clear.false (sym c.is_first_tick-first.ensures ∙ c.if-first.false) c.run_time-timer.ensures (sym c.is_true.ensures ∙ c.if-is_true.true)

pub returns : goal.returns
unfolding of_bits
returns c = over _ _ _ _ _ c.if-clear.false (sym c.is_first_tick-first.ensures ∙ c.if-first.false) c.run_time-timer.ensures (sym c.is_true.ensures ∙ c.if-is_true.false)
