-- `test_run` tests the form of the words, and then as a start does. Assumes nothing.
use mathlib.Core.Path.{◌∙◌}
use borrow.Author.Tests.{eq-eqb, ne_eqb}
use Rattle.runs.proofs.Ending.{handed, no_ticks, no_room, as_start}
use Rattle.runs.proofs.test_run.Goals as goal

pub returns-then-ticks-ne0 : goal.returns-then-ticks-ne0
returns-then-ticks-ne0 c = no_ticks _ _ _ _ c.if-ticks-ne0.true

pub returns-then-answers-ticks : goal.returns-then-answers-ticks
returns-then-answers-ticks c = no_room _ _ _ _ c.if-ticks-ne0.false (ne_eqb _ _ c.if-answers-ticks.true)

pub returns-in_err-test_form : goal.returns-in_err-test_form
returns-in_err-test_form c =
    as_start _ _ _ _ c.if-ticks-ne0.false (eq-eqb _ _ c.if-answers-ticks.false) (handed c.from_residual.result _ c.from_residual.ensures.1 ∙ c.in_err-test_form.ensures)

pub returns : goal.returns
returns c = as_start _ _ _ _ c.if-ticks-ne0.false (eq-eqb _ _ c.if-answers-ticks.false) c.in_ok-test_form.ensures
