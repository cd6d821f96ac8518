-- `chunk::feed` meets its contract: what is left of the chunk leads from the run at hand to where all of it leads. Assumes nothing.
use Prim.Native.Nat.{◌*◌, ◌≤◌}
use mathlib.Core.Path.{◌≡◌}
use lib.ListN.{length}
use Rattle.session.specs.Stream.{at_hand}
use Rattle.session.proofs.Feeding.{Running}
use Rattle.session.proofs.chunk.feed.Given as goal

abbrev pub invariant-loop-b : goal.invariant-loop-b
invariant-loop-b l = record {
  room : l.out.at ≤ 32 * l.b-index;
  carry : length l.carry ≡ 256;
  size : length l.out.bytes.now ≡ length l.initial.out.bytes.now;
  same_reference : l.out.bytes.ghost_name ≡ l.initial.out.bytes.ghost_name;
  runs : Running (at_hand l.initial.session l.initial.region l.initial.carry l.initial.held) l.b-items l.initial.out.bytes.now l.session l.region l.carry l.held l.out l.b-index;
}
