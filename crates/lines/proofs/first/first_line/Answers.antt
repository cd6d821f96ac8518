-- `first::first_line` meets its contract: the name is the first item, and the settings are those after it. Assumes nothing.
use mathlib.Core.Path.{sym, ◌∙◌}
use Rattle.lines.proofs.Naming.{first_unknown, first_read}
use Rattle.lines.proofs.first.first_line.Goals as goal

pub returns-in_err-number : goal.returns-in_err-number
returns-in_err-number c =
    let end = c.end_of-end in
    c.from_residual.ensures
    ∙ sym (first_unknown c.args.line.now end.result c.if-line-gt-LONGEST.false end.ensures.value (sym c.in_err-number.was ∙ c.number_for.ensures))

pub returns-in_err-words : goal.returns-in_err-words
returns-in_err-words c =
    let end = c.end_of-end in
    let number = c.in_ok-number in
    let classes = c.classes_of-classes in
    c.from_residual-in_err-words.ensures
    ∙ sym (first_read c.args.line.now end.result c.if-line-gt-LONGEST.false end.ensures.value
    number.number (sym number.was ∙ c.number_for.ensures) classes.result.now classes.ensures
    _ (sym c.in_err-words.was ∙ c.read_values.ensures))

pub returns : goal.returns
returns c =
    let end = c.end_of-end in
    let number = c.in_ok-number in
    let classes = c.classes_of-classes in
    c.block_of.ensures
    ∙ sym (first_read c.args.line.now end.result c.if-line-gt-LONGEST.false end.ensures.value
    number.number (sym number.was ∙ c.number_for.ensures) classes.result.now classes.ensures
    _ (sym c.in_ok-words.was ∙ c.read_values.ensures))
