-- `step::output_and_timer` meets its contract. Assumes nothing.
use mathlib.Core.Path.{sym, ◌∙◌}
use lib.Ieee.{of_bits}
use Rattle.true_delay.proofs.Cases.{low, waits_first, passes_first, holds_on, rose, runs}
use Rattle.true_delay.proofs.step.output_and_timer.Goals as goal

pub returns-then-not-input : goal.returns-then-not-input
unfolding of_bits
returns-then-not-input c = low _ _ _ _ c.if-not-input.true-raw

pub returns-then-first_waits : goal.returns-then-first_waits
unfolding of_bits
returns-then-first_waits c =
    waits_first _ _ _ _ c.if-not-input.false-raw c.positive_duration-delay.ensures (sym c.is_first_tick.ensures ∙ c.if-is_first_tick.true)
    (sym c.first_waits.ensures ∙ c.if-first_waits.true)

pub returns-then-is_first_tick : goal.returns-then-is_first_tick
returns-then-is_first_tick c =
    passes_first _ _ _ _ c.if-not-input.false-raw c.positive_duration-delay.ensures (sym c.is_first_tick.ensures ∙ c.if-is_first_tick.true)
    (sym c.first_waits.ensures ∙ c.if-first_waits.false)

pub returns-then-s : goal.returns-then-s
returns-then-s c = holds_on _ _ _ _ c.if-not-input.false-raw c.positive_duration-delay.ensures (sym c.is_first_tick.ensures ∙ c.if-is_first_tick.false) c.if-s.true

pub returns-then-not-s : goal.returns-then-not-s
unfolding of_bits
returns-then-not-s c =
    rose _ _ _ _ c.if-not-input.false-raw c.positive_duration-delay.ensures (sym c.is_first_tick.ensures ∙ c.if-is_first_tick.false)
    c.if-s.false c.if-not-s.true

pub returns : goal.returns
returns c =
    runs _ _ _ _ c.if-not-input.false-raw c.positive_duration-delay.ensures (sym c.is_first_tick.ensures ∙ c.if-is_first_tick.false)
    c.if-s.false c.if-not-s.false c.tick_dt.ensures
