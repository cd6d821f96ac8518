-- Stored words and the reals that they mean: a real is stored and read back unchanged. Assumes nothing.
use mathlib.Core.Path.{◌≡◌, refl, sym, ap, ◌∙◌, subst}
use Prim.Native.Nat.{ℕ, ◌%◌, ◌^◌, ◌<◌}
use mathlib.Core.Bool.{Bool, true, false, not, cond, true≢false}
use lib.Dec.{T, ltb}
use lib.Ieee.{Float, nan, inf, fin, binary64, of_bits, to_bits, fits, is_nan, nan_bits}
use lib.Ieee.Bits.{of_bits-to_bits, to_bits-lt, of_bits-fits, to_bits-of_bits, nan_bits_is, nan_bits_above}
use lib.Ieee.Fits.{round-fits}
use lib.Ieee.Scale.{finite}
use Rattle.std.specs.Float.{float_is_finite}
use Rattle.reals.specs.Words.{0·0, nearest, real_of, word_of, canonical_word, flag_of, word_of_flag}

-- ---- which patterns and which reals are NaN
pub nan_of : (x : Float) → is_nan x ≡ true → x ≡ nan
unfolding is_nan
nan_of nan h = refl
nan_of (inf s) h = absurd (true≢false (sym h))
nan_of (fin s m e) h = absurd (true≢false (sym h))

-- a NaN's pattern lies above infinity's, but for the sign
pub nan_above : (w : ℕ) → ltb 0x7ff0_0000_0000_0000 (w % 2 ^ 63) ≡ is_nan (real_of w)
nan_above w = sym (nan_bits_above binary64 w) ∙ nan_bits_is binary64 w

pub number_bits : (w : ℕ) → is_nan (real_of w) ≡ false → T (not (nan_bits binary64 w))
number_bits w h = rw (nan_bits_is binary64 w ∙ h) tt

-- ---- there and back
-- what a real is stored as is read back as that real
pub real_word : (x : Float) → T (fits binary64 x) → real_of (word_of x) ≡ x
real_word x h = of_bits-to_bits binary64 x h

-- a stored word is a word
pub word_lt : (x : Float) → T (fits binary64 x) → word_of x < 2 ^ 64
word_lt x h = to_bits-lt binary64 x h

-- a word that means a number is what that number is stored as
pub word_real : (w : ℕ) → w < 2 ^ 64 → T (not (is_nan (real_of w))) → word_of (real_of w) ≡ w
word_real w h n = to_bits-of_bits binary64 w h n

-- whatever a word means fits
pub real_fits : (w : ℕ) → T (fits binary64 (real_of w))
real_fits w = of_bits-fits binary64 w

pub word_nan : word_of nan ≡ 0x7ff8_0000_0000_0000
unfolding to_bits
word_nan = refl

-- a decimal names an f64
pub nearest_fits : (a b : ℕ) → T (fits binary64 (nearest a b))
nearest_fits a b = round-fits binary64 false a b

-- the canonical word is what the word's meaning is stored as
pub canonical_is : (w : ℕ) → w < 2 ^ 64 → word_of (real_of w) ≡ canonical_word w
unfolding canonical_word
canonical_is w h = go (is_nan (real_of w)) refl
  where
    go : (b : Bool) → is_nan (real_of w) ≡ b → word_of (real_of w) ≡ cond b 0x7ff8_0000_0000_0000 w
    go true e = ap word_of (nan_of (real_of w) e) ∙ word_nan
    go false e = word_real w h (subst (λ (z : Bool). T (not z)) (sym e) tt)

-- so every real is stored as a canonical word
pub stored_canonical : (x : Float) → T (fits binary64 x) → canonical_word (word_of x) ≡ word_of x
stored_canonical x h = sym (canonical_is (word_of x) (word_lt x h)) ∙ ap word_of (real_word x h)

pub flag_back : (b : Bool) → flag_of (word_of_flag b) ≡ b
flag_back true = refl
flag_back false = refl

-- ---- which reals are finite
pub finite_is : (x : Float) → float_is_finite x ≡ finite x
unfolding float_is_finite
finite_is nan = refl
finite_is (inf s) = refl
finite_is (fin s m e) = refl

-- ---- 0.0 and NAN of the code are the 0·0 and the `nan` of the definitions
pub zero_is : of_bits binary64 0 ≡ 0·0
unfolding of_bits
zero_is = refl

pub nan_is : of_bits binary64 0x7ff8_0000_0000_0000 ≡ nan
unfolding of_bits
nan_is = refl
