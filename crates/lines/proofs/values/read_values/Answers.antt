-- `values::read_values` meets its contract: what is left, laid out behind the words so far, is what all of it says. Assumes nothing.
use mathlib.Core.Path.{sym, ◌∙◌}
use lib.ListN.{length-set}
use Rattle.lines.proofs.Words.{filled_word}
use Rattle.lines.proofs.values.read_values.Goals as goal

pub loop-j-preserved : goal.loop-j-preserved
loop-j-preserved c =
    let l = c.loop-j in
    let a = c.args in
    let end = c.end_of-end in (
      simp length-set l.invariant.0,
      sym (filled_word a.classes.now a.line.now l.words l.j l.next c.loop-j-test.true
          c.if-line-next.false end.result end.ensures.value c.in_ok-words.field-0 (sym c.read_item.ensures ∙ c.in_ok-words.was))
          ∙ l.invariant.1,
    )
