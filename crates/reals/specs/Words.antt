-- What a stored word means: a real is its binary64 pattern, every NaN being the one `nan`; a boolean is true unless 0. Definitions only.
use Rattle.std.specs.Prelude.{ℕ, Bool, false, not, cond, eqb, pos, Float}
use Rattle.std.specs.Float.{fin, binary64}
use Rattle.std.specs.Float.Ieee.{of_bits, to_bits, round, is_nan}

-- the f64 nearest to a / b, as decimals are named: 1e-3 is `nearest 1 1000`
abbrev pub nearest : ℕ → ℕ → Float
nearest a b = round binary64 false a b

abbrev pub 0·0 : Float
0·0 = fin false 0 (pos 0)

abbrev pub 1·0 : Float
1·0 = fin false 1 (pos 0)

abbrev pub real_of : ℕ → Float
real_of w = of_bits binary64 w

-- at `nan` this is 7FF8000000000000
abbrev pub word_of : Float → ℕ
word_of x = to_bits binary64 x

-- every NaN becomes 7FF8000000000000, other words stay
unfoldable pub canonical_word : ℕ → ℕ
canonical_word w = cond (is_nan (real_of w)) 0x7ff8_0000_0000_0000 w

abbrev pub flag_of : ℕ → Bool
flag_of w = not (eqb w 0)

abbrev pub word_of_flag : Bool → ℕ
word_of_flag b = cond b 1 0
