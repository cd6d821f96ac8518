-- A previous time is stored and read back, no real is stored as the unset one, a time does not run back from itself, and the gap of an accepted tick is not below zero. Assumes nothing.
use Rattle.std.specs.Prelude.{None, Some}
use mathlib.Core.Path.{◌≡◌, refl, sym, ap, ◌∙◌, subst}
use mathlib.Core.Logic.{◌≢◌}
use mathlib.Core.Bool.{true, false}
use native.Mathlib.Omega.{arith}
use borrow.Author.Tests.{ne_eqb}
use lib.Dec.{T}
use lib.Ieee.{Float, nan, inf, fin, binary64, of_bits, to_bits, fits, neg, le, lt}
use lib.Ieee.Scale.{finite}
use Rattle.reals.specs.Words.{0·0, real_of, word_of}
use Rattle.reals.proofs.Words.{real_word}
use Rattle.reals.proofs.Order.{le_reflexive, le_of_not_lt, le_not_lt, finite_number}
use Rattle.reals.proofs.Sums.{gap_nonneg}
use Rattle.dynamics.specs.Previous.{unset, previous_of, word_of_previous, sound_previous, gap, runs_back, Previous}

-- the unset time means a NaN, and the NaN is stored as another word: so no real is stored as the unset time
real_unset : real_of unset ≡ nan
unfolding of_bits
real_unset = refl

word_nan_set : word_of nan ≢ unset
unfolding to_bits
word_nan_set h = omega arith

pub word_set : (x : Float) → T (fits binary64 x) → word_of x ≢ unset
word_set x f h = word_nan_set (ap word_of (sym (sym (real_word x f) ∙ ap real_of h ∙ real_unset)) ∙ h)

pub previous_back : (t : Float) → T (fits binary64 t) → previous_of (word_of_previous (Some t)) ≡ Some t
unfolding previous_of
previous_back t f = simp (ne_eqb (word_of t) unset (word_set t f), real_word t f)

pub unset_back : previous_of (word_of_previous None) ≡ None
unfolding previous_of
unset_back = refl

-- a tick at the previous time, and one zero after the other, do not run back
pub same_time : (t : Float) → runs_back t (Some t) ≡ false
unfolding lt
same_time nan = refl
same_time (inf s) = le_not_lt (inf s) (inf s) (le_reflexive (inf s) tt)
same_time (fin s m e) = le_not_lt (fin s m e) (fin s m e) (le_reflexive (fin s m e) tt)

pub minus_zero_after_zero : runs_back (neg 0·0) (Some 0·0) ≡ false
unfolding lt neg
minus_zero_after_zero = refl

pub zero_after_minus_zero : runs_back 0·0 (Some (neg 0·0)) ≡ false
unfolding lt neg
zero_after_minus_zero = refl

-- the gap of an accepted tick
pub gap_accepted : (t : Float) (p : Previous) → T (finite t) → sound_previous p ≡ true → runs_back t p ≡ false → T (le 0·0 (gap t p))
unfolding gap
gap_accepted t None f g h = unfold le in tt
gap_accepted t (Some p) f g h = gap_nonneg t p f (subst T (sym g) tt) (le_of_not_lt p t (finite_number p (subst T (sym g) tt)) (finite_number t f) h)
