-- `step::y_now` meets its contract. Assumes nothing.
use mathlib.Core.Path.{sym, ◌∙◌}
use lib.Ieee.{of_bits}
use Rattle.timer_accumulating.proofs.Cases.{y_wiped, y_grown, y_kept}
use Rattle.timer_accumulating.proofs.step.y_now.Goals as goal

pub returns-then-wipes : goal.returns-then-wipes
unfolding of_bits
returns-then-wipes c = y_wiped _ _ _ _ c.if-wipes.true

pub returns-then-gap_counts : goal.returns-then-gap_counts
returns-then-gap_counts c = y_grown _ _ _ _ c.if-wipes.false (sym c.gap_counts.ensures ∙ c.if-gap_counts.true) c.tick_dt.ensures

pub returns : goal.returns
returns c = y_kept _ _ _ _ c.if-wipes.false (sym c.gap_counts.ensures ∙ c.if-gap_counts.false)
