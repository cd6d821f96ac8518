-- `average::advance` prunes, finds the place and writes. Assumes nothing.
use Rattle.moving_average.proofs.Steps.{ring_holds, place_fits, advanced}
use Rattle.moving_average.proofs.average.advance.Goals as goal

pub invariant_of-left : goal.invariant_of-left
invariant_of-left c = record { holds = ring_holds c.args.geometry c.args.region.now c.args.s c.args.t c.ring_of.ensures c.requires c.pruned.ensures }

pub write-requires : goal.write-requires
write-requires c = record {
  holds = ring_holds c.args.geometry c.args.region.now c.args.s c.args.t c.ring_of.ensures c.requires c.pruned.ensures;
  inside = place_fits c.args.geometry c.args.region.now c.args.s c.args.t c.ring_of.ensures c.requires c.pruned.ensures c.place_for-place.ensures;
}

pub returns : goal.returns
returns c = advanced c.args.geometry c.args.region.now c.args.s c.args.t c.ring_of.ensures c.requires c.pruned.ensures c.place_for-place.ensures c.is_rising-warning.ensures _ c.word_of.ensures (rw c.is_first_tick.ensures at c.start_word.ensures) c.word_of-2.ensures c.latch.ensures c.write.ensures
