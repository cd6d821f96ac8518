-- `values::read_values` meets its contract: what is left, laid out behind the words so far, is what all of it says. Assumes nothing.
use mathlib.Core.Path.{◌≡◌}
use lib.ListN.{length, drop}
use Rattle.lines.specs.Values.{items_from, words_said, laid_out}
use Rattle.lines.proofs.Words.{filled}
use Rattle.lines.proofs.values.read_values.Given as goal

abbrev pub invariant-loop-j : goal.invariant-loop-j
invariant-loop-j l =
    (length l.words ≡ 16)
    × (filled l.words l.j (words_said (drop l.j l.classes) (items_from l.line l.next)) ≡ laid_out (words_said l.classes (items_from l.line l.at)))
