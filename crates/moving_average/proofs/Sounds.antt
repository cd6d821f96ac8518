-- Request 2 of document 02: what sound means; a fresh start is sound, and each call keeps a sound region sound. Assumes nothing.
use mathlib.Core.Path.{◌≡◌, refl, sym, ap, ◌∙◌, subst}
use mathlib.Core.Bool.{true, false}
use mathlib.Core.List.{List}
use Prim.Native.Nat.{ℕ, suc, ◌+◌, ◌*◌, ◌%◌, ◌<◌}
use native.Mathlib.Omega.{arith}
use borrow.Author.Tests.{eqb-true, eq-eqb, lt-ltb, le-leb}
use lib.Dec.{T, eqb}
use lib.ListN.{get_or}
use lib.Ieee.{Float, binary64, fits}
use Rattle.reals.specs.Words.{real_of}
use Rattle.reals.proofs.Values.{both, both_pass}
use Rattle.reals.proofs.Words.{real_word}
use Rattle.dynamics.specs.Previous.{previous_of, sound_previous, runs_back, Previous}
use Rattle.dynamics.specs.Machine.{decode_refusal, is_sound, tick_refusal}
use Rattle.dynamics.specs.Sound.{StaysSound}
use Rattle.dynamics.specs.declared.call.Inputs.{Inputs}
use Rattle.dynamics.proofs.Calls.{tick_sized, tick_time, tick_decodes, tick_order}
use Rattle.dynamics.proofs.Sounds as sounds
use Rattle.window.specs.Geometry.{geometry_of}
use Rattle.window.specs.Order.{Ordered}
use Rattle.window.proofs.Sizes.{capacity_least}
use Rattle.window.proofs.Orders.{ordered_means, means_ordered, none_ordered, dropped_ordered, stored_ordered}
use Rattle.moving_average.specs.Ring.{slot_of, time_of, time_place, time_word, time_at}
use Rattle.moving_average.specs.Average.{pruned, written}
use Rattle.moving_average.specs.MovingAverage.{state_of, ring_of, decodable, in_order, fresh, ring_at, step_of, after_of, machine_for, machine, PointsOrdered, Sound}
use Rattle.moving_average.specs.declared.MovingAverage.{MovingAverage}
use Rattle.moving_average.specs.declared.ring.Ring.{Ring}
use Rattle.moving_average.specs.declared.store.Step.{Step}
use Rattle.moving_average.proofs.Turns.{time_on}
use Rattle.moving_average.proofs.Stores.{Last, time_new, time_old}
use Rattle.moving_average.proofs.Decoding.{previous_decodes, sound_is}
use Rattle.moving_average.proofs.Rules.{step, step_holds, place_fits, fresh_length, tick_length, previous_after, head_after, count_after, decodes_after}

-- ---- sound is yes exactly if the region decodes and the times of its ring are in order
module _ (b : MovingAverage) (w : List ℕ) where
  pub sound_means : is_sound (machine b) w ≡ true → Sound b w
  sound_means e =
      let (d, o) = both (eqb (decode_refusal (machine b) w) 0) _ (sym (sound_is b w) ∙ e) in
      record { decodes = eqb-true _ _ d; ordered = ordered_means _ _ _ o }

  pub means_sound : Sound b w → is_sound (machine b) w ≡ true
  means_sound s = sound_is b w ∙ both_pass (eq-eqb _ _ s.decodes) (means_ordered _ _ _ s.ordered)

  -- the same of the block's own test
  test_ordered : (machine b).sound w ≡ true → PointsOrdered b w
  unfolding machine_for in_order
  test_ordered e = ordered_means _ _ _ (both (decodable (state_of w) (geometry_of b.delta).capacity) _ e).1

  ordered_test : (machine b).decodes w ≡ true → PointsOrdered b w → (machine b).sound w ≡ true
  unfolding machine_for in_order
  ordered_test d o = both_pass d (means_ordered _ _ _ o)

-- ---- an accepted tick prunes and stores
module _ (b : MovingAverage) (time : Float) (i : Inputs) (w : List ℕ) (ok : tick_refusal (machine b) time w ≡ 0) where
  abbrev left : List ℕ
  left = (machine b).after w time i

  -- what it did
  abbrev done : Step
  done = step b time i w ok

  -- the ring as the tick leaves it
  abbrev ring_left : Ring
  ring_left = ring_of (state_of left) (geometry_of b.delta).capacity

  -- pruned, it is in order still
  pruned_ordered : PointsOrdered b w → Ordered (time_at w done.ring) done.ring.count (state_of w).previous
  unfolding step_of ring_at pruned
  pruned_ordered o = dropped_ordered _ _ _ _ _ (λ n. time_on w _ _ n) o

  fits_in : Last done.ring done.place
  fits_in = place_fits b time i w ok

  -- the tick's time stands at its place, and each older one where it stood
  module _ (n : ℕ) where
    as_written : time_at left ring_left n ≡ real_of (time_word (written w done) done.ring n)
    unfolding machine_for after_of step_of time_at time_word time_place slot_of ring_at pruned
    as_written = ap (λ (head : ℕ). real_of (get_or left (time_of ((head + n) % (geometry_of b.delta).capacity)) 0)) (head_after b time i w ok)

    older : n < done.place.position → time_at left ring_left n ≡ time_at w done.ring n
    unfolding time_at step_of
    older h = as_written ∙ ap real_of (time_old w done (step_holds b time i w ok) fits_in.room n (omega (arith, fits_in.room)) (λ e. omega arith))

    newest : n ≡ done.place.position → T (fits binary64 time) → time_at left ring_left n ≡ time
    unfolding step_of
    newest e f = as_written ∙ ap real_of (rw e (time_new w done (step_holds b time i w ok) fits_in.room)) ∙ real_word time f

  previous_sound : sound_previous (state_of w).previous ≡ true
  previous_sound = previous_decodes b w (tick_decodes (machine b) time i w ok)

  on_time : runs_back time (state_of w).previous ≡ false
  unfolding machine_for
  on_time = tick_order (machine b) time i w ok

  left_ordered : T (fits binary64 time) → PointsOrdered b w → PointsOrdered b left
  left_ordered f o =
      subst (λ (n : ℕ). Ordered (time_at left ring_left) n (state_of left).previous) (fits_in.last ∙ sym (count_after b time i w ok))
      (subst (λ (p : Previous). Ordered (time_at left ring_left) (done.place.position + 1) p) (sym (previous_after b time i w ok f))
      (stored_ordered (time_at w done.ring) (time_at left ring_left) done.ring.count done.place.position (state_of w).previous time
      fits_in.near (pruned_ordered o) older (newest done.place.position refl f) (tick_time (machine b) time i w ok) previous_sound on_time))

-- ---- a start
module _ (b : MovingAverage) where
  abbrev cap : ℕ
  cap = (geometry_of b.delta).capacity

  three : 3 + 2 * cap ≡ suc (suc (suc (2 * cap)))
  three = omega arith

  fresh_decodes : (machine b).decodes (machine b).fresh ≡ true
  unfolding machine_for fresh decodable state_of previous_of
  fresh_decodes = rw (three, lt-ltb 0 cap (omega (arith, capacity_least b.delta)), le-leb 0 cap (omega arith))

  fresh_count : (state_of (machine b).fresh).count ≡ 0
  unfolding machine_for fresh state_of
  fresh_count = rw three

-- ---- each call keeps a sound region sound, and a fresh start is sound
pub stays_sound : (b : MovingAverage) → StaysSound (machine b)
stays_sound b = sounds.stays_sound (machine b)
    (record {
      fresh_counted = fresh_length b;
      fresh_sound = ordered_test b (machine b).fresh (fresh_decodes b) (none_ordered _ _ _ (fresh_count b));
      after_counted = λ w k ok. tick_length b k.time k.inputs w ok ∙ eqb-true _ _ (tick_sized (machine b) k.time k.inputs w ok);
      after_sound = λ w k ok s. ordered_test b ((machine b).after w k.time k.inputs) (decodes_after b k.time k.inputs w ok k.is_f64) (left_ordered b k.time k.inputs w ok k.is_f64 (test_ordered b w s));
    })
