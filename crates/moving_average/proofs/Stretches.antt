-- A walk along the slots is one along the positions: straight on from the head, and on from slot 0 past the turn. Assumes nothing.
use mathlib.Core.Path.{◌≡◌, sym, ◌∙◌, ap}
use mathlib.Core.List.{List}
use Prim.Native.Nat.{ℕ, ◌+◌, ◌-◌, ◌≤◌, ◌<◌}
use native.Mathlib.Omega.{arith}
use lib.ListN.{get_or}
use lib.Ieee.{Float}
use Rattle.reals.specs.Words.{real_of}
use Rattle.window.specs.Walk.{climbed}
use Rattle.window.proofs.Climbs.{climbed_same, climbed_split}
use Rattle.moving_average.specs.Ring.{Stands, slot_of, time_of, time_place, time_word, time_at, slot_time}
use Rattle.moving_average.specs.declared.ring.Ring.{Ring}
use Rattle.moving_average.proofs.Places.{slot_straight, slot_turned}

module _ (r : List ℕ) (g : Ring) (h : Stands g) (last : Float) where
  -- k slots from a on are the positions from n on
  stretch : (k a n : ℕ) → ((i : ℕ) → i < k → a + i ≡ slot_of g (n + i)) → (x : Float) → climbed (slot_time r) a k x ≡ climbed (time_at r g) n k x
  unfolding slot_time time_at time_word time_place
  stretch k a n slots x = climbed_same (slot_time r) (time_at r g) k a n x (λ i l. ap (λ (s : ℕ). real_of (get_or r (time_of s) 0)) (slots i l))

  -- of the slots from the head up to b none is past the end
  from_head : (k : ℕ) → g.head + k ≤ g.capacity → (x : Float) → climbed (slot_time r) g.head k x ≡ climbed (time_at r g) 0 k x
  from_head k room = stretch k g.head 0 (λ i l. let s = slot_straight g h (0 + i) (omega arith) in omega (arith, s))

  pub straight : (b : ℕ) → b ≡ g.head + g.count → b ≤ g.capacity
      → {x : Float} → x ≡ climbed (slot_time r) g.head (b - g.head) last → x ≡ climbed (time_at r g) 0 g.count last
  straight b e room x = x ∙ ap (λ (k : ℕ). climbed (slot_time r) g.head k last) (omega arith) ∙ from_head g.count (omega arith) last

  pub turned : (b : ℕ) → b ≡ g.head + g.count → g.count ≤ g.capacity → g.capacity < b
      → {y x : Float} → y ≡ climbed (slot_time r) g.head (g.capacity - g.head) last → x ≡ climbed (slot_time r) 0 (b - g.capacity - 0) y → x ≡ climbed (time_at r g) 0 g.count last
  turned b e most past {y} y_is x_is =
      let j = g.capacity - g.head in
      let k = b - g.capacity in
      let f = h.first in
      let on = from_head j (omega arith) last in
      let past_turn = stretch k 0 (0 + j) (λ i l. let s = slot_turned g h (0 + j + i) (omega arith) (omega arith) in omega (arith, s)) in
      x_is
      ∙ ap (λ (m : ℕ). climbed (slot_time r) 0 m y) (omega arith)
      ∙ past_turn y
      ∙ ap (λ (x : Float). climbed (time_at r g) (0 + j) k x) (y_is ∙ on)
      ∙ sym (climbed_split (time_at r g) j k 0 last)
      ∙ ap (λ (m : ℕ). climbed (time_at r g) 0 m last) (omega arith)
