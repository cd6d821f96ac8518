-- What a pulse makes of a share at and beyond its ends, whatever its other settings and words are: the table of docs/PULSE.md. Assumes nothing.
use mathlib.Core.Path.{◌≡◌, refl}
use mathlib.Core.Bool.{Bool, true, false, not, ◌&&◌, ◌||◌, cond}
use denote.Floats.{passes}
use lib.Ieee.{Float, nan, inf, fin, binary64, lt, le, sub}
use lib.Ieee.Scale.{finite}
use Rattle.reals.specs.Words.{0·0, 1·0}
use Rattle.reals.specs.Rounding.{magnitude}
use Rattle.reals.proofs.Order.{lt_not_ge}
use Rattle.logical_variable_pulse.specs.LogicalVariablePulse.{width_changed, cycle_output}
use Rattle.logical_variable_pulse.proofs.Holding.{above_zero}

-- ---- the width
less_nan : (x : Float) → sub binary64 x nan ≡ nan
unfolding sub
less_nan nan = refl
less_nan (inf s) = refl
less_nan (fin s m e) = refl

below_nan : (x : Float) → lt x nan ≡ false
unfolding lt
below_nan nan = refl
below_nan (inf s) = refl
below_nan (fin s m e) = refl

-- a share that is a NaN never changes it
pub nan_changes_nothing : (sampled delta : Float) → width_changed sampled nan delta ≡ false
unfolding width_changed magnitude
nan_changes_nothing sampled delta = rw (less_nan sampled) (below_nan delta)

-- and a sampled one that is a NaN is never changed
pub nan_stays : (u delta : Float) → width_changed nan u delta ≡ false
unfolding width_changed magnitude sub
nan_stays u delta = below_nan delta

-- ---- the cycle's output
any_or : (a : Bool) → a || true ≡ true
any_or true = refl
any_or false = refl

never : (a : Bool) → cond a false false ≡ false
never true = refl
never false = refl

module _ (time u t0 period : Float) where
  -- no share, or less: false
  pub none_asked : le u 0·0 ≡ true → cycle_output time u t0 period ≡ false
  unfolding cycle_output
  none_asked l = rw (l, any_or (not (finite u))) (never (not (finite time && finite t0)))

  -- a share that is no finite number: false
  pub no_number_asked : finite u ≡ false → cycle_output time u t0 period ≡ false
  unfolding cycle_output
  no_number_asked f = rw f (never (not (finite time && finite t0)))

  -- the whole, or more: true, where time and anchor are finite
  pub all_asked : finite time ≡ true → finite t0 ≡ true → finite u ≡ true → le 1·0 u ≡ true → cycle_output time u t0 period ≡ true
  unfolding cycle_output
  all_asked a b c l = rw (a, b, c, lt_not_ge 0·0 u (above_zero u (passes _ l)), l) refl
