-- A region as the calls find it: a fresh one, and one that decodes, in which its ring stands. Assumes nothing.
use mathlib.Core.Path.{◌≡◌, refl, sym, ap, ◌∙◌}
use mathlib.Core.Bool.{Bool, true, false, ◌&&◌}
use mathlib.Core.List.{List, []}
use Prim.Native.Nat.{ℕ, suc, ◌+◌, ◌*◌, ◌≤◌, ◌<◌}
use native.Mathlib.Omega.{arith}
use borrow.Author.Tests.{eqb-true, eq-eqb, ne_eqb, ltb-true, leb-true}
use lib.Dec.{eqb, ltb, leb}
use lib.ListN.{length, set, replicate}
use lib.Ieee.{Float, of_bits}
use lib.Ieee.Scale.{finite}
use Rattle.reals.proofs.Values.{both}
use Rattle.dynamics.specs.Previous.{unset, previous_of, sound_previous}
use Rattle.dynamics.specs.Machine.{sized, start_refusal, decode_refusal, tick_refusal, is_sound}
use Rattle.dynamics.specs.declared.call.Inputs.{Inputs}
use Rattle.dynamics.proofs.Calls.{start_sized, tick_sized, tick_decodes, decode_passed}
use Rattle.dynamics.proofs.Sounds.{sound_more}
use Rattle.window.specs.Geometry.{geometry_of}
use Rattle.window.specs.declared.ring.RingGeometry.{RingGeometry}
use Rattle.window.specs.Order.{is_ordered}
use Rattle.window.proofs.Sizes.{capacity_most, length_is}
use Rattle.moving_average.specs.Ring.{Holds, time_at}
use Rattle.moving_average.specs.MovingAverage.{state_of, ring_of, decodable, in_order, fresh, machine_for, machine, zeros}
use Rattle.moving_average.specs.declared.MovingAverage.{MovingAverage}
use Rattle.moving_average.specs.declared.ring.Ring.{Ring}
use Rattle.moving_average.specs.declared.state.State.{State}

-- the record of zeros is what words of 0 mean
pub zeros_mean : state_of [] ≡ zeros
unfolding state_of previous_of of_bits
zeros_mean = refl

-- a region of the state's length
long : (b : MovingAverage) (w : List ℕ) → sized (machine b) w ≡ true → length w ≡ 6 + 2 * (geometry_of b.delta).capacity
unfolding machine_for
long b w e = eqb-true _ _ e ∙ length_is b.delta

-- zeros and the unset marker are a fresh region
fresh_words : (b : MovingAverage) (w : List ℕ) → sized (machine b) w ≡ true → set (replicate (length w) 0) 2 unset ≡ (machine b).fresh
unfolding machine_for fresh
fresh_words b w e =
    let three : 6 + 2 * (geometry_of b.delta).capacity ≡ suc (suc (suc (3 + 2 * (geometry_of b.delta).capacity))) = omega arith in
    rw (long b w e, three)

-- ---- a region that a start takes
module _ (b : MovingAverage) (w : List ℕ) (passed : start_refusal (machine b) w ≡ 0) where
  enough : length w ≡ 6 + 2 * (geometry_of b.delta).capacity
  enough = long b w (start_sized (machine b) w passed)

  pub has_six : 6 ≤ length w
  has_six = omega (arith, enough)

  pub refreshed : {w' : List ℕ} → w' ≡ set (replicate (length w) 0) 2 unset → w' ≡ (machine b).fresh
  refreshed l = l ∙ fresh_words b w (start_sized (machine b) w passed)

-- ---- a region of the state's length that decodes: its previous time is unset or finite, and its ring stands in it
within : (s : State) (cap : ℕ) → decodable s cap ≡ true → (sound_previous s.previous ≡ true) × (s.head < cap) × (s.count ≤ cap)
unfolding decodable
within s cap e =
    let (two, counted) = both (sound_previous s.previous && ltb s.head cap) (leb s.count cap) e in
    let (time, first) = both (sound_previous s.previous) (ltb s.head cap) two in
    (time, ltb-true _ _ first, leb-true _ _ counted)

module _ (b : MovingAverage) (w : List ℕ) (d : (machine b).decodes w ≡ true) where
  pub previous_decodes : sound_previous (state_of w).previous ≡ true
  unfolding machine_for
  previous_decodes = (within (state_of w) (geometry_of b.delta).capacity d).0

  pub ring_holds : sized (machine b) w ≡ true → Holds w (ring_of (state_of w) (geometry_of b.delta).capacity)
  unfolding machine_for
  ring_holds l =
      let (_, first, counted) = within (state_of w) (geometry_of b.delta).capacity d in
      record { stands = record { few = capacity_most b.delta; first = first; counted = counted }; size = long b w l }

-- so does the ring of an accepted tick
pub holds : (b : MovingAverage) (time : Float) (i : Inputs) (w : List ℕ) → tick_refusal (machine b) time w ≡ 0 → Holds w (ring_of (state_of w) (geometry_of b.delta).capacity)
holds b time i w z = ring_holds b w (tick_decodes (machine b) time i w z) (tick_sized (machine b) time i w z)

-- ---- sound: the region is taken apart, then its ring is looked at
module _ (b : MovingAverage) (w : List ℕ) where
  abbrev ring : Ring
  ring = ring_of (state_of w) (geometry_of b.delta).capacity

  -- it is yes exactly if the region decodes and its times are in order
  pub sound_is : is_sound (machine b) w ≡ eqb (decode_refusal (machine b) w) 0 && is_ordered (time_at w ring) (state_of w).count (state_of w).previous
  unfolding machine_for in_order
  sound_is = sound_more (machine b) w _ refl

  -- where it decodes, its ring is looked at
  module _ (opened : decode_refusal (machine b) w ≡ 0) {s : State} (here : s ≡ state_of w) {g : RingGeometry} (shaped : g ≡ geometry_of b.delta)
      {r : Ring} (whole : r ≡ ring_of s g.capacity) where
    pub order_asks : Holds w r × (sound_previous s.previous ≡ true)
    order_asks =
        let (_, l, e) = decode_passed (machine b) w opened in
        rw (whole, shaped, here) (ring_holds b w e l, previous_decodes b w e)

    pub orderly : {o : Bool} → o ≡ is_ordered (time_at w r) r.count s.previous → o ≡ (machine b).sound w
    unfolding machine_for in_order
    orderly o =
        let e : (machine b).decodes w ≡ true = (decode_passed (machine b) w opened).2 in
        o ∙ rw (whole, shaped, here) (sym (ap (λ (p : Bool). p && is_ordered (time_at w ring) (state_of w).count (state_of w).previous) e))
