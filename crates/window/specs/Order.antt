-- Request 2 of document 02: when the times of a ring's points are in order. `time n` is the time at ring position n. `Ordered` is what
-- that means; `is_ordered` is the same as a yes or no (`ordered_means`, `means_ordered` of proofs/Orders.antt). Definitions only.
use Rattle.std.specs.Prelude.{◌≡◌, ℕ, zero, suc, ◌+◌, ◌-◌, ◌<◌, Bool, true, false, not, ◌&&◌, ◌||◌, ◌==◌, Float, None, Some}
use Rattle.std.specs.Float.Ieee.{lt}
use Rattle.std.specs.Float.Ieee.Scale.{finite}
use Rattle.dynamics.specs.Previous.{is_first, Previous}

-- a time lies above a set previous time
abbrev pub is_above : Float → Previous → Bool
is_above t None = false
is_above t (Some p) = lt p t

pub record Ordered (time : ℕ → Float) (count : ℕ) (previous : Previous) : Type 0 where
  -- the times at ring positions below the count are finite
  pub finites : (n : ℕ) → n < count → finite (time n) ≡ true
  -- none is below the one before
  pub rises : (n : ℕ) → n + 1 < count → lt (time (n + 1)) (time n) ≡ false
  -- none is above the previous time
  pub past : (n : ℕ) → n < count → is_above (time n) previous ≡ false
  -- and the count is 0 while the previous time is unset
  pub begun : previous ≡ None → count ≡ 0

-- each position below a count passes a test
unfoldable pub all : ℕ → (ℕ → Bool) → Bool
all zero p = true
all (suc n) p = all n p && p n

unfoldable pub is_ordered : (ℕ → Float) → ℕ → Previous → Bool
is_ordered time count previous =
    all count (λ n. finite (time n))
    && (all (count - 1) (λ n. not (lt (time (n + 1)) (time n)))
    && (all count (λ n. not (is_above (time n) previous))
    && (not (is_first previous) || count == 0)))
