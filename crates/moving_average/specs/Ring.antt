-- The ring of points inside a region, by position: position 0 is the oldest point. Definitions only.
use Rattle.std.specs.Prelude.{◌≡◌, Bool, not, cond, List, ℕ, zero, suc, ◌+◌, ◌-◌, ◌*◌, ◌%◌, ◌<◌, ◌≤◌, length, get_or, Float}
use Rattle.std.specs.Float.Ieee.{le}
use Rattle.reals.specs.Words.{real_of}
use Rattle.window.specs.declared.mean.Point.{Point}
use Rattle.moving_average.specs.declared.ring.Ring.{Ring}

-- the ring's numbers are a ring's
pub record Stands (g : Ring) : Type 0 where
  pub few : g.capacity ≤ 131076
  pub first : g.head < g.capacity
  pub counted : g.count ≤ g.capacity

-- and the region is as long as the ring asks
pub record Holds (r : List ℕ) (g : Ring) : Type 0 where
  pub stands : Stands g
  pub size : length r ≡ 6 + 2 * g.capacity

-- ---- where a point lies: the one place that knows the layout

-- position n of the ring is slot (head + n) mod capacity
unfoldable pub slot_of : Ring → ℕ → ℕ
slot_of g n = (g.head + n) % g.capacity

-- a slot's words: all ring times, then all ring integrals, past the first six words
abbrev pub time_of : ℕ → ℕ
time_of s = 6 + s

abbrev pub mu_of : ℕ → ℕ → ℕ
mu_of capacity s = 6 + capacity + s

-- a position's words are its slot's
unfoldable pub time_place : Ring → ℕ → ℕ
time_place g n = time_of (slot_of g n)

unfoldable pub mu_place : Ring → ℕ → ℕ
mu_place g n = mu_of g.capacity (slot_of g n)

-- ---- the points by position

unfoldable pub time_word : List ℕ → Ring → ℕ → ℕ
time_word r g n = get_or r (time_place g n) 0

unfoldable pub time_at : List ℕ → Ring → ℕ → Float
time_at r g n = real_of (time_word r g n)

-- the time in a slot, whatever its position
unfoldable pub slot_time : List ℕ → ℕ → Float
slot_time r s = real_of (get_or r (time_of s) 0)

unfoldable pub point_at : List ℕ → Ring → ℕ → Point
point_at r g n = record { time = time_at r g n; mu = real_of (get_or r (mu_place g n) 0) }

-- ---- walks along the times

-- of the k positions from n on, how many pass a test before the first that does not
unfoldable pub leading : (ℕ → Bool) → ℕ → ℕ → ℕ
leading p n zero = 0
leading p n (suc k) = cond (p n) (suc (leading p (suc n) k)) 0

-- the first position at or before whose time the target lies, or the count
unfoldable pub edge_of : List ℕ → Ring → Float → ℕ
edge_of r g target = leading (λ (n : ℕ). not (le target (time_at r g n))) 0 g.count

-- how many of the oldest points expire: from the second on, those whose time is at or before the cutoff, up to the first that is not
unfoldable pub expired_of : List ℕ → Ring → Float → ℕ
expired_of r g cutoff = leading (λ (n : ℕ). le (time_at r g n) cutoff) 1 (g.count - 1)
