-- The absolute value is the number with its sign cleared, and what a comparison with zero says of the sign. Assumes nothing.
use mathlib.Core.Path.{◌≡◌, refl}
use Prim.Native.Nat.{ℕ, ◌*◌, ◌<◌}
use native.Mathlib.Nat.{zero-mul}
use native.Mathlib.Omega.{arith}
use mathlib.Core.Bool.{Bool, true, false}
use borrow.Author.Tests.{ltb-true}
use lib.IntN.{ℤ}
use lib.Ieee.{Float, nan, inf, fin, up, down, lt}
use Rattle.std.specs.Float.{float_with_sign}
use Rattle.reals.specs.Words.{0·0}
use Rattle.reals.specs.Rounding.{magnitude}

none_below : (a c : ℕ) → a < 0 * c → ⊥
none_below a c h = omega (arith, zero-mul c)

pub sign_below : (s : Bool) (m : ℕ) (e : ℤ) → lt (fin s m e) 0·0 ≡ true → s ≡ true
unfolding lt
sign_below true m e h = refl
sign_below false m e h = absurd (none_below (m * up e * 1) (down e) (ltb-true (m * up e * 1) (0 * down e) h))

pub magnitude_is : (x : Float) → float_with_sign false x ≡ magnitude x
unfolding float_with_sign magnitude
magnitude_is nan = refl
magnitude_is (inf s) = refl
magnitude_is (fin s m e) = refl
