-- A region such as the bench had, request 2 of document 02: its ring times are out of order. It decodes, an emit and an update accept it, and it is not sound.
-- And ticks at 0.0 and -0.0 leave two equal neighbours, which are in order. Assumes nothing.
use mathlib.Core.Path.{◌≡◌, refl}
use mathlib.Core.Bool.{true, false}
use mathlib.Core.List.{List, ◌∷◌}
use Prim.Native.Nat.{ℕ}
use lib.ListN.{replicate}
use lib.Ieee as ieee
use Rattle.reals.specs.Words.{nearest, 0·0, 1·0, word_of}
use Rattle.reals.specs.Rounding as rounding
use Rattle.dynamics.specs.Previous.{previous_of}
use Rattle.dynamics.specs.Leaves as leaf
use Rattle.dynamics.specs.Answer as answer
use Rattle.dynamics.specs.Machine.{decode_refusal, tick_refusal, is_sound, emit_answer, update_answer, updated_words}
use Rattle.dynamics.specs.declared.call.Inputs.{Inputs}
use Rattle.window.specs.Geometry as window
use Rattle.window.specs.Order as order
use Rattle.moving_average.specs.Ring as ring
use Rattle.moving_average.specs.Average as stored
use Rattle.moving_average.specs.MovingAverage as average
use Rattle.moving_average.specs.MovingAverage.{machine, state_of}
use Rattle.moving_average.specs.declared.MovingAverage.{MovingAverage}

abbrev two_seconds : MovingAverage
two_seconds = record { delta = nearest 2 1 }

-- previous time 1.0 and two points, the first at 1.0, the second at 0.0
unfoldable pub disorder : List ℕ
disorder = 0 ∷ 0 ∷ word_of 1·0 ∷ 0 ∷ 2 ∷ 0 ∷ word_of 1·0 ∷ replicate 4103 0

pub record AcceptedNotSound (b : MovingAverage) (time : ieee.Float) (w : List ℕ) : Type 0 where
  pub decodes : decode_refusal (machine b) w ≡ 0
  pub emit : (i : Inputs) → (emit_answer (machine b) time i w).refusal ≡ 0
  pub update : (i : Inputs) → (update_answer (machine b) time i w).refusal ≡ 0
  pub not_sound : is_sound (machine b) w ≡ false

number : tick_refusal (machine two_seconds) 1·0 disorder ≡ 0
unfolding disorder tick_refusal ieee.of_bits ieee.to_bits ieee.eq ieee.lt ieee.le ieee.add ieee.sub ieee.mul ieee.div ieee.round ieee.to_unsigned ieee.of_int rounding.whole previous_of leaf.raised_to answer.refusal_of window.delta_eff window.geometry_of window.slot_count window.slots_of average.decodable average.machine_for average.state_of
number = refl

decoded : decode_refusal (machine two_seconds) disorder ≡ 0
unfolding disorder decode_refusal ieee.of_bits ieee.to_bits ieee.eq ieee.lt ieee.le ieee.add ieee.sub ieee.mul ieee.div ieee.round ieee.neg ieee.to_unsigned ieee.of_int rounding.whole previous_of leaf.raised_to answer.refusal_of window.delta_eff window.geometry_of window.slot_count window.slots_of average.decodable average.machine_for average.state_of
decoded = refl

unsound : is_sound (machine two_seconds) disorder ≡ false
unfolding disorder is_sound ieee.of_bits ieee.to_bits ieee.eq ieee.lt ieee.le ieee.add ieee.sub ieee.mul ieee.div ieee.round ieee.neg ieee.to_unsigned ieee.of_int rounding.whole previous_of leaf.raised_to answer.refusal_of window.delta_eff window.geometry_of window.slot_count window.slots_of ring.slot_of ring.time_at ring.time_place ring.time_word order.all order.is_ordered average.decodable average.in_order average.machine_for average.state_of
unsound = refl

pub accepted_not_sound : AcceptedNotSound two_seconds 1·0 disorder
unfolding emit_answer update_answer answer.accept
accepted_not_sound = record { decodes = decoded; emit = λ i. rw number refl; update = λ i. rw number refl; not_sound = unsound }

-- ---- ticks at 0.0 and then at -0.0, from a fresh start
abbrev no_inputs : Inputs
no_inputs = record { first = 0; second = 0; third = 0 }

abbrev zeros : List ℕ
zeros = updated_words (machine two_seconds) (ieee.neg 0·0) no_inputs (updated_words (machine two_seconds) 0·0 no_inputs (machine two_seconds).fresh)

pub two_zeros : ((state_of zeros).count ≡ 2) × (is_sound (machine two_seconds) zeros ≡ true)
unfolding updated_words tick_refusal is_sound ieee.of_bits ieee.to_bits ieee.eq ieee.lt ieee.le ieee.add ieee.sub ieee.mul ieee.div ieee.round ieee.neg ieee.to_unsigned ieee.of_int rounding.whole previous_of leaf.accumulated leaf.raised_to answer.refusal_of window.delta_eff window.geometry_of window.slot_count window.slots_of answer.accept ring.leading ring.slot_of ring.time_at ring.time_place ring.mu_place ring.time_word ring.expired_of order.all order.is_ordered stored.is_crowded stored.place_of stored.pruned stored.written average.place_at average.ring_at average.warning_of average.after_of average.decodable average.in_order average.fresh average.machine_for average.mu_now average.state_of average.step_of
two_zeros = (refl, refl)
