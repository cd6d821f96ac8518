-- Where a position's words lie: past the first six, inside the region; and its slot without a division. Assumes nothing.
use mathlib.Core.Path.{◌≡◌, sym, ◌∙◌}
use Prim.Native.Nat.{ℕ, ◌+◌, ◌-◌, ◌*◌, ◌≤◌, ◌<◌}
use native.Mathlib.Nat.{mod-lt, mod-eq_of_lt, mod-eq-sub-mod}
use native.Mathlib.Omega.{arith}
use Rattle.moving_average.specs.Ring.{Stands, slot_of, time_place, mu_place}
use Rattle.moving_average.specs.declared.ring.Ring.{Ring}

module _ (g : Ring) (s : Stands g) (n : ℕ) where
  pub slot_within : slot_of g n < g.capacity
  unfolding slot_of
  slot_within = mod-lt _ (omega (arith, s.first))

  pub time_within : (6 ≤ time_place g n) × (time_place g n < 6 + 2 * g.capacity)
  unfolding time_place
  time_within = omega (arith, slot_within)

  pub mu_within : (6 ≤ mu_place g n) × (mu_place g n < 6 + 2 * g.capacity)
  unfolding mu_place
  mu_within = omega (arith, slot_within)

  -- the slot is head + n, less a turn past the end
  pub slot_straight : g.head + n < g.capacity → g.head + n ≡ slot_of g n
  unfolding slot_of
  slot_straight h = sym (mod-eq_of_lt h)

  pub slot_turned : n ≤ g.capacity → g.capacity ≤ g.head + n → g.head + n - g.capacity ≡ slot_of g n
  unfolding slot_of
  slot_turned h k =
      let f = s.first in
      let rest : g.head + n - g.capacity < g.capacity = omega arith in
      sym (mod-eq-sub-mod k ∙ mod-eq_of_lt rest)
