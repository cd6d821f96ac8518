-- `list::replay_all` is safe: each list has at most as many calls as there is room for bytes. Assumes nothing.
use Prim.Native.Nat.{◌*◌, ◌≤◌}
use Rattle.replay.proofs.list.replay_all.Given as goal

abbrev pub invariant-loop-kind : goal.invariant-loop-kind
invariant-loop-kind g l = record {
  few : l.calls ≤ l.kind-index * 262144;
  differing : l.differ ≤ l.calls;
}
