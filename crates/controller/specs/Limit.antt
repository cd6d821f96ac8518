-- The limiter. Definitions only.
use Rattle.std.specs.Prelude.{◌≡◌, cond, T, Float}
use Rattle.std.specs.Float.Ieee.{lt, le}
use Rattle.controller.specs.declared.config.ControllerConfig.{ControllerConfig}
use Rattle.controller.specs.declared.limit.Rule.{Rule}
use Rattle.controller.specs.declared.limit.Rule.TheVariants.{PassesNan}

-- y_max if y_u > y_max; else y_min if y_u < y_min; else y_u. So NaN passes
unfoldable pub clamp : ControllerConfig → Rule → Float → Float
clamp b PassesNan y_u =
    cond (lt b.y_max y_u) b.y_max
    (cond (lt y_u b.y_min) b.y_min
    y_u)

unfoldable pub limit : ControllerConfig → Float → Float
limit b y_u = clamp b PassesNan y_u

-- ---- what the limits promise (proofs/Limits.antt)

-- With y_min <= y_max and a sum that is a number: the sum held between the limits. It lies between them; it is the sum where
-- that does, else the nearer limit
pub record Held (b : ControllerConfig) (y_u y : Float) : Type 0 where
  pub not_below : T (le b.y_min y)
  pub not_above : T (le y b.y_max)
  pub between : T (le b.y_min y_u) → T (le y_u b.y_max) → y ≡ y_u
  pub raised : T (lt y_u b.y_min) → y ≡ b.y_min
  pub lowered : T (lt b.y_max y_u) → y ≡ b.y_max

-- With y_min > y_max the chain as it is written: y_max for a sum above that, else y_min
pub record Crossed (b : ControllerConfig) (y_u y : Float) : Type 0 where
  pub above : T (lt b.y_max y_u) → y ≡ b.y_max
  pub otherwise : T (le y_u b.y_max) → y ≡ b.y_min
