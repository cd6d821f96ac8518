-- What the numbers of the code are. Assumes nothing.
use mathlib.Core.Path.{◌≡◌, refl}
use Prim.Native.Nat.{◌^◌}
use lib.IntN.{pos}
use lib.Ieee.{of_bits, of_int, binary64, round}
use Rattle.reals.specs.Words.{nearest}

-- 1e-3, 1e-5 and 2.0
pub thousandth_is : of_bits binary64 4562254508917369340 ≡ nearest 1 1000
unfolding of_bits round
thousandth_is = refl

pub least_is : of_bits binary64 4532020583610935537 ≡ nearest 1 (10 ^ 5)
unfolding of_bits round
least_is = refl

pub two_is : of_bits binary64 4611686018427387904 ≡ nearest 2 1
unfolding of_bits round
two_is = refl

-- 2048 and 131072 as reals
pub least_slots_is : of_int binary64 (pos 2048) ≡ nearest 2048 1
unfolding of_int
least_slots_is = refl

pub most_slots_is : of_int binary64 (pos 131072) ≡ nearest 131072 1
unfolding of_int
most_slots_is = refl
