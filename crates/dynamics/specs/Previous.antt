-- The time of the previous tick, and the gap since. Definitions only.
use Rattle.std.specs.Prelude.{ℕ, Bool, true, false, cond, eqb, Float, Option, None, Some}
use Rattle.std.specs.Float.Ieee.{lt}
use Rattle.std.specs.Float.Ieee.Scale.{finite}
use Rattle.reals.specs.Words.{0·0, real_of, word_of}
use Rattle.reals.specs.Arithmetic.{◌⊖◌}

-- the time of the previous tick, if there was one
abbrev pub Previous : Type 0
Previous = Option Float

-- the word of a previous time that no tick has set: all ones
abbrev pub unset : ℕ
unset = 0xffff_ffff_ffff_ffff

unfoldable pub previous_of : ℕ → Previous
previous_of w = cond (eqb w unset) None (Some (real_of w))

abbrev pub word_of_previous : Previous → ℕ
word_of_previous None = unset
word_of_previous (Some p) = word_of p

-- unset, or finite
abbrev pub sound_previous : Previous → Bool
sound_previous None = true
sound_previous (Some p) = finite p

abbrev pub is_first : Previous → Bool
is_first None = true
is_first (Some p) = false

-- the time since: 0.0 when previous time is unset, else time minus previous, one rounding
abbrev pub gap : Float → Previous → Float
gap t None = 0·0
gap t (Some p) = t ⊖ p

-- the time lies below a set previous time
abbrev pub runs_back : Float → Previous → Bool
runs_back t None = false
runs_back t (Some p) = lt t p
