-- `step::output_and_timer` lets an output last for a least time. Assumes nothing.
use mathlib.Core.Path.{sym, ◌∙◌}
use lib.Ieee.{of_bits}
use Rattle.hold.proofs.Cases.{first, agrees, flipped, stays}
use Rattle.hold.proofs.step.output_and_timer.Goals as goal

pub returns-then-is_first_tick : goal.returns-then-is_first_tick
unfolding of_bits
returns-then-is_first_tick c = first _ _ _ _ (sym c.is_first_tick.ensures ∙ c.if-is_first_tick.true)

pub returns-then-input-s : goal.returns-then-input-s
returns-then-input-s c = agrees _ _ _ _ (sym c.is_first_tick.ensures ∙ c.if-is_first_tick.false) c.tick_dt.ensures c.if-input-s.true

pub returns-then-timer-least : goal.returns-then-timer-least
unfolding of_bits
returns-then-timer-least c = flipped _ _ _ _ (sym c.is_first_tick.ensures ∙ c.if-is_first_tick.false) c.tick_dt.ensures c.if-input-s.false c.if-timer-least.true

pub returns : goal.returns
returns c = stays _ _ _ _ (sym c.is_first_tick.ensures ∙ c.if-is_first_tick.false) c.tick_dt.ensures c.if-input-s.false c.if-timer-least.false
