-- The buffers keep their lengths, and after the turns that were taken the run is at this state, each of which read a byte or more.
use mathlib.Core.Path.{◌≡◌}
use lib.ListN.{length}
use Rattle.soak.specs.Run.{Leads, Going}
use Rattle.soak.proofs.take_all.Given as goal

abbrev pub invariant-loop-taken : goal.invariant-loop-taken
invariant-loop-taken g l = record {
  chunk : 4096 ≡ length l.chunk;
  out : 131072 ≡ length l.out;
  going : Going l._taken l.state;
  leads : Leads l.initial.state l.state (g.R.Read.remaining l.initial.input) (g.R.Read.remaining l.input) (g.W.Write.contents l.initial.output) (g.W.Write.contents l.output);
}
