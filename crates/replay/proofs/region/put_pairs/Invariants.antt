-- `region::put_pairs` meets its contract: the pairs that are left make of the region what all of them make of it as it was. Assumes nothing.
use Prim.Native.Nat.{◌+◌, ◌-◌, ◌*◌, ◌≤◌}
use mathlib.Core.Path.{◌≡◌}
use lib.ListN.{length, drop}
use Rattle.replay.specs.Region.{paired}
use Rattle.replay.proofs.region.put_pairs.Given as goal

abbrev pub invariant-loop-put : goal.invariant-loop-put
invariant-loop-put l = record {
  within : l.next ≤ length l.words;
  ends : l.next ≡ l.at + 1 + 2 * l._put;
  left : paired (l.count - l._put) (drop l.next l.words) l.region ≡ paired l.count (drop (l.at + 1) l.words) l.initial.region;
}
