-- `write` stores each word at its place. Assumes nothing.
use Rattle.pid.specs.Pid.{words_of}
use Rattle.pid.proofs.Decoding.{none_stored}
use Rattle.pid.proofs.state.write.Goals as goal

pub returns-in-P : goal.returns-in-P
unfolding words_of
returns-in-P c = rw c.in-P.is (none_stored _)

pub returns-then-c : goal.returns-then-c
unfolding words_of
returns-then-c c = simp (c.store.ensures, c.if-c.true, c.in-Pi.is, c.word_of_flag-trigger.ensures, c.word_of_previous-t.ensures, c.word_of-i.ensures)

pub returns-else-c : goal.returns-else-c
unfolding words_of
returns-else-c c = simp (c.store-else-c.ensures, c.if-c.false, c.in-Pi.is, c.word_of_previous-t.ensures, c.word_of-i.ensures)

pub returns-in-Pd : goal.returns-in-Pd
unfolding words_of
returns-in-Pd c = simp (c.store-in-Pd.ensures, c.in-Pd.is, c.word_of-d.ensures, c.word_of_previous-t.ensures)

pub returns-then-c-2 : goal.returns-then-c-2
unfolding words_of
returns-then-c-2 c = simp (c.store-then-c-2.ensures, c.if-c-2.true, c.in-Pid.is, c.word_of-i.ensures, c.word_of_previous-t.ensures, c.word_of-d.ensures, c.word_of_flag-trigger.ensures)

pub returns-else-c-2 : goal.returns-else-c-2
unfolding words_of
returns-else-c-2 c = simp (c.store-else-c-2.ensures, c.if-c-2.false, c.in-Pid.is, c.word_of-i.ensures, c.word_of_previous-t.ensures, c.word_of-d.ensures)
