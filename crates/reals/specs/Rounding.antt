-- Absolute value and rounding to a whole number, said over whole numbers: a finite real is m * 2 ^ e with a sign, and that is the fraction (m * up e) / down e. Definitions only.
use Rattle.std.specs.Prelude.{ℕ, ◌+◌, ◌-◌, ◌*◌, ◌/◌, ◌≡◌, Bool, true, false, cond, T, ℤ, pos, neg_ℤ, ◌*ℤ◌, ◌≤ℤ◌, Float}
use Rattle.std.specs.Float.{nan, inf, fin, binary64}
use Rattle.std.specs.Float.Ieee.{up, down, round}
use Rattle.std.specs.Float.Ieee.Scale.{finite}
use Rattle.std.specs.Float.Ieee.Positive.{num, den}

-- the sign of a real, set where it is negative or -0
abbrev pub sign_of : Float → Bool
sign_of nan = false
sign_of (inf s) = s
sign_of (fin s m e) = s

abbrev pub signed : Bool → ℕ → ℤ
signed s a = cond s (neg_ℤ (pos a)) (pos a)

-- the finite real x is the fraction numer x / den x
abbrev pub numer : Float → ℤ
numer x = signed (sign_of x) (num x)

-- ---- absolute value
-- the same number without its sign; a NaN stays
unfoldable pub magnitude : Float → Float
magnitude nan = nan
magnitude (inf s) = inf false
magnitude (fin s m e) = fin false m e

-- what that comes to for a finite x: the fraction num x / den x, with the sign clear. `proofs/Meaning.antt` shows it of every finite f64, and that no other f64 is that
pub record IsMagnitude (x r : Float) : Type 0 where
  pub is_finite : T (finite r)
  pub same_size : num r * den x ≡ num x * den r
  pub sign_clear : sign_of r ≡ false

-- ---- rounding to a whole number
pub data Way : Type 0 where
  downward upward : Way

-- the greatest whole number not above a / c, and the least not below it
abbrev pub whole_below : ℕ → ℕ → ℕ
whole_below a c = a / c

abbrev pub whole_above : ℕ → ℕ → ℕ
whole_above a c = (a + (c - 1)) / c

-- the size of the whole number that a / c with the sign s is rounded to: a negative number goes up by getting smaller in size
abbrev pub whole_size : Way → Bool → ℕ → ℕ → ℕ
whole_size upward false a c = whole_above a c
whole_size upward true a c = whole_below a c
whole_size downward false a c = whole_below a c
whole_size downward true a c = whole_above a c

-- x rounded to a whole number. It keeps the sign of x, also as a zero; a NaN and an infinity stay. `round` changes nothing here, it only writes the whole number as a real
unfoldable pub whole : Way → Float → Float
whole w nan = nan
whole w (inf s) = inf s
whole w (fin s m e) = round binary64 s (whole_size w s (m * up e) (down e)) 1

-- what rounding comes to for a finite x, over the whole numbers ℤ; shown in `proofs/Meaning.antt` too
abbrev pub Before : Way → ℤ → ℤ → Type 0
Before upward a b = a ≤ℤ b
Before downward a b = b ≤ℤ a

-- r is a whole number z; z is not on the wrong side of x; of all such whole numbers it is the first; and r has the sign of x
pub record IsWhole (w : Way) (x r : Float) : Type 0 where
  pub z : ℤ
  pub is_finite : T (finite r)
  pub is_z : numer r ≡ z *ℤ pos (den r)
  pub reaches : Before w (numer x) (z *ℤ pos (den x))
  pub first : (y : ℤ) → Before w (numer x) (y *ℤ pos (den x)) → Before w z y
  pub keeps_sign : sign_of r ≡ sign_of x
