-- How the code looks at the times of a ring. What they are is said in Order.antt; this is for the contracts of the walks. Definitions only.
use Rattle.std.specs.Prelude.{ℕ, zero, suc, cond, Float}
use Rattle.std.specs.Float.{nan}
use Rattle.std.specs.Float.Ieee.{le}

-- along k times from place n on: the last of them, if none is below the one before; else the NaN, which is at or below no time.
-- `last` is the time before the first
unfoldable pub climbed : (ℕ → Float) → ℕ → ℕ → Float → Float
climbed time n zero last = last
climbed time n (suc k) last = climbed time (suc n) k (cond (le last (time n)) (time n) nan)
