-- `stretch::end_of` meets its contract: the stretch from i on ends where the one from `at` on does. Assumes nothing.
use Prim.Native.Nat.{◌+◌}
use mathlib.Core.Path.{◌≡◌}
use lib.ListN.{drop}
use Rattle.text.specs.Stretches.{up_to}
use Rattle.text.proofs.stretch.end_of.Given as goal

abbrev pub invariant-loop-i : goal.invariant-loop-i
invariant-loop-i l = l.i + up_to l.x (drop l.i l.s) ≡ l.at + up_to l.x (drop l.at l.s)
