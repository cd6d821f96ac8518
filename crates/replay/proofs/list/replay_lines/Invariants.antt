-- `list::replay_lines` meets its contract. The invariant: no more calls than bytes passed, and if none differs and all lines that are
-- left hold, then all do. Assumes nothing.
use Prim.Native.Nat.{◌-◌, ◌≤◌}
use mathlib.Core.Path.{◌≡◌}
use lib.ListN.{length}
use Rattle.replay.specs.List.{AllHold}
use Rattle.replay.proofs.list.replay_lines.Given as goal

abbrev pub invariant-loop-at : goal.invariant-loop-at
invariant-loop-at g l = record {
  within : l.at ≤ length l.lines;
  few : l.calls ≤ l.at;
  differing : l.differ ≤ l.calls;
  holds : l.differ ≡ 0 → AllHold l.form l.lines l.at → AllHold l.form l.lines 0;
}

abbrev pub decreases-loop-at : goal.decreases-loop-at
decreases-loop-at g l = length l.lines - l.at
