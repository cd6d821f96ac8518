-- What the numbers of the code are. Assumes nothing.
use mathlib.Core.Path.{◌≡◌, refl}
use lib.Ieee.{of_bits, binary64, round, mul}
use Rattle.controller.specs.Settings.{eps, least}

-- 1e-15, and 100.0 * 1e-15
pub eps_is : of_bits binary64 4382569440205035030 ≡ eps
unfolding of_bits round eps
eps_is = refl

pub least_is : of_bits binary64 4412443251819771522 ≡ least
unfolding of_bits round mul eps least
least_is = refl
