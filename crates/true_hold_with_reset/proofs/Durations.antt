-- A sum that is not negative is below the positive duration exactly if it is below the duration. Assumes nothing.
use mathlib.Core.Path.{◌≡◌, refl, sym, ◌∙◌}
use mathlib.Core.Bool.{Bool, true, false, cond}
use lib.Dec.{T}
use lib.Ieee.{Float, nan, inf, fin, lt, le}
use Rattle.reals.specs.Words.{0·0}
use Rattle.reals.proofs.Order.{le_transitive, le_not_lt, le_of_not_lt}
use Rattle.dynamics.specs.Leaves.{positive_duration}

module _ (x : Float) (nonneg : T (le 0·0 x)) where
  -- a duration that is not above 0 has nothing below it
  below_none : (d : Float) → lt 0·0 d ≡ false → lt x d ≡ false
  below_none nan e = below_nan x
    where
      below_nan : (y : Float) → lt y nan ≡ false
      below_nan nan = unfold lt in refl
      below_nan (inf s) = unfold lt in refl
      below_nan (fin s m t) = unfold lt in refl
  below_none (inf s) e = le_not_lt (inf s) x (le_transitive (inf s) 0·0 x (le_of_not_lt (inf s) 0·0 tt tt e) nonneg)
  below_none (fin s m t) e = le_not_lt (fin s m t) x (le_transitive (fin s m t) 0·0 x (le_of_not_lt (fin s m t) 0·0 tt tt e) nonneg)

  pub below_positive : (d : Float) → lt x (positive_duration d) ≡ lt x d
  unfolding positive_duration
  below_positive d = go (lt 0·0 d) refl
    where
      go : (p : Bool) → lt 0·0 d ≡ p → lt x (cond p d 0·0) ≡ lt x d
      go true e = refl
      go false e = le_not_lt 0·0 x nonneg ∙ sym (below_none d e)
