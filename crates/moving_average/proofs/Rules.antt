-- What an accepted tick leaves, as document 01 says it: the length, the start time's word, the coalesced word and the warning; and that it decodes. Assumes nothing.
use Rattle.std.specs.Prelude.{Some}
use mathlib.Core.Path.{◌≡◌, refl, sym, ap, ◌∙◌}
use mathlib.Core.Bool.{Bool, true, false, not, ◌&&◌}
use mathlib.Core.List.{List}
use Prim.Native.Nat.{ℕ, zero, suc, ◌≤◌}
use native.Mathlib.Omega.{arith}
use borrow.Author.Tests.{ne_eqb, lt-ltb, le-leb}
use lib.Dec.{T, eqb}
use lib.ListN.{length, get_or, length-replicate}
use lib.Ieee.{Float, binary64, fits}
use Rattle.reals.specs.Words.{real_of}
use Rattle.dynamics.specs.Previous.{is_first, previous_of}
use Rattle.dynamics.specs.Answer.{refusal_of}
use Rattle.dynamics.specs.Leaves.{rising}
use Rattle.dynamics.specs.Machine.{decode_refusal, tick_refusal}
use Rattle.dynamics.specs.declared.call.Inputs.{Inputs}
use Rattle.dynamics.proofs.Times.{previous_back}
use Rattle.dynamics.proofs.Calls.{tick_settings, tick_sized, tick_time}
use Rattle.window.specs.Geometry.{geometry_of}
use Rattle.window.proofs.Sizes.{length_is}
use Rattle.moving_average.specs.Ring.{Holds}
use Rattle.moving_average.specs.Average.{pruned}
use Rattle.moving_average.specs.MovingAverage.{state_of, decodable, fresh, mu_now, ring_at, place_at, warning_of, start_word, latch, step_of, after_of, machine_for, machine}
use Rattle.moving_average.specs.declared.MovingAverage.{MovingAverage}
use Rattle.moving_average.specs.declared.store.Step.{Step}
use Rattle.moving_average.proofs.Walks.{pruned_holds}
use Rattle.moving_average.proofs.Stores.{Last, place_last, written_length, written_front}
use Rattle.moving_average.proofs.Decoding.{holds}

-- ---- an accepted tick
turned : (old : ℕ) (b : Bool) → rising b (not (eqb old 0)) ≡ eqb old 0 && eqb (latch old (rising b (not (eqb old 0)))) 1
turned zero true = refl
turned zero false = refl
turned (suc n) b = simp (ne_eqb (suc n) 0 (λ z. omega arith))

module _ (b : MovingAverage) (time : Float) (i : Inputs) (w : List ℕ) (ok : tick_refusal (machine b) time w ≡ 0) where
  abbrev left : List ℕ
  left = (machine b).after w time i

  abbrev warning : Bool
  warning = (machine b).warns w time i

  abbrev pub step : Step
  step = step_of (geometry_of b.delta) w (state_of w) time (mu_now (state_of w) time (real_of i.first))

  pub step_holds : Holds w step.ring
  unfolding step_of ring_at
  step_holds = pruned_holds w _ _ (holds b time i w ok)

  -- the region keeps its length
  pub tick_length : length left ≡ length w
  unfolding machine_for after_of
  tick_length = written_length w step step_holds

  -- the start time's word is written on the first tick alone
  pub start_word_lem : get_or left 1 0 ≡ start_word (get_or w 1 0) (is_first (state_of w).previous) time
  unfolding machine_for after_of step_of
  start_word_lem = written_front w step step_holds 1 (omega arith)

  -- the coalesced word is written with the warning alone
  pub coalesced_word : get_or left 5 0 ≡ latch (get_or w 5 0) warning
  unfolding machine_for after_of step_of
  coalesced_word = written_front w step step_holds 5 (omega arith)

  -- the warning is true exactly on the call that turns the coalesced word from 0 to 1
  pub warning_exactly : warning ≡ eqb (get_or w 5 0) 0 && eqb (get_or left 5 0) 1
  unfolding machine_for warning_of state_of
  warning_exactly = turned (get_or w 5 0) (place_at (geometry_of b.delta) w (state_of w) time).coalesced ∙ ap (λ (n : ℕ). eqb (get_or w 5 0) 0 && eqb n 1) (sym coalesced_word)

  -- what it leaves decodes: the previous time is this tick's, head and count are the step's, within the capacity
  pub previous_after : T (fits binary64 time) → (state_of left).previous ≡ Some time
  unfolding machine_for after_of step_of state_of
  previous_after f = ap previous_of (written_front w step step_holds 2 (omega arith)) ∙ previous_back time f

  pub head_after : (state_of left).head ≡ step.ring.head
  unfolding machine_for after_of state_of
  head_after = written_front w step step_holds 3 (omega arith)

  pub count_after : (state_of left).count ≡ step.place.count
  unfolding machine_for after_of state_of
  count_after = written_front w step step_holds 4 (omega arith)

  pub place_fits : Last step.ring step.place
  unfolding step_of place_at
  place_fits = place_last w step.ring _ time step_holds.stands

  pub decodes_after : T (fits binary64 time) → (machine b).decodes left ≡ true
  unfolding machine_for decodable step_of ring_at pruned
  decodes_after f =
      let few : step.place.count ≤ (geometry_of b.delta).capacity = omega (arith, place_fits.last, place_fits.room) in
      rw (previous_after f, tick_time (machine b) time i w ok, head_after, count_after, lt-ltb _ _ step_holds.stands.first, le-leb _ _ few)

  pub left_decodes : T (fits binary64 time) → decode_refusal (machine b) left ≡ 0
  unfolding decode_refusal refusal_of
  left_decodes f = rw (tick_settings (machine b) time i w ok, tick_length, tick_sized (machine b) time i w ok, decodes_after f)

-- ---- a start
pub fresh_length : (b : MovingAverage) → length (machine b).fresh ≡ (machine b).size
unfolding machine_for fresh
fresh_length b = simp length-replicate (omega (arith, length_is b.delta))
