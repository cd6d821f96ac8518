-- `line::read_words` meets its contract. The invariant: the words below n are the line's items, and the next one starts at `at`. Assumes nothing.
use Prim.Native.Nat.{ℕ, ◌*◌, ◌≤◌, ◌<◌}
use mathlib.Core.Path.{◌≡◌}
use lib.ListN.{length, get_or}
use Rattle.std.proofs.Common.{Some}
use Rattle.replay.specs.Line.{item_from}
use Rattle.replay.proofs.line.read_words.Given as goal

abbrev pub invariant-loop-n : goal.invariant-loop-n
invariant-loop-n l = record {
  at : l.at ≡ l.n * 17;
  within : l.at ≤ length l.line;
  each : (k : ℕ) → k < l.n → item_from l.line (k * 17) ≡ Some (get_or l.words k 0);
}
