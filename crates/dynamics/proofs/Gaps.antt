-- Sums of the gaps between accepted ticks: f64, not below zero, and never falling. Assumes nothing.
use mathlib.Core.Path.{◌≡◌, sym, subst}
use mathlib.Core.Bool.{Bool, true, false, cond}
use lib.Dec.{T}
use lib.Ieee.{Float, binary64, fits, add, le}
use Rattle.reals.specs.Words.{0·0}
use Rattle.reals.proofs.Order.{le_transitive}
use Rattle.reals.proofs.Sums.{add_nonneg, add_grows}
use Rattle.dynamics.specs.Previous.{sound_previous, gap}
use Rattle.dynamics.specs.Machine.{Tick}
use Rattle.dynamics.specs.History.{History, previous_in, refused_after}
use Rattle.dynamics.proofs.Times.{gap_accepted}
use Rattle.dynamics.proofs.Histories.{forward}

pub zero_nonneg : T (le 0·0 0·0)
unfolding le
zero_nonneg = tt

pub zero_f64 : T (fits binary64 0·0)
unfolding fits
zero_f64 = tt

-- a property of both is one of either
pub either : (P : Float → Type 0) (u : Bool) {x y : Float} → P x → P y → P (cond u x y)
either P true p q = p
either P false p q = q

-- k is accepted after h: its gap added to a sum x
module _ (k : Tick) (h : History) (now : sound_previous (previous_in h) ≡ true) (ok : refused_after k h ≡ 0) (x : Float) (nonneg : T (le 0·0 x)) where
  ahead : T (le 0·0 (gap k.time (previous_in h)))
  ahead = let (t, o) = forward k h ok in gap_accepted k.time (previous_in h) (subst T (sym t) tt) now o

  pub sum_nonneg : T (le 0·0 (add binary64 x (gap k.time (previous_in h))))
  sum_nonneg = add_nonneg x (gap k.time (previous_in h)) nonneg ahead

  -- what the sum has reached it keeps
  pub sum_keeps : (t : Float) → T (fits binary64 x) → T (le t x) → T (le t (add binary64 x (gap k.time (previous_in h))))
  sum_keeps t f l = le_transitive t x (add binary64 x (gap k.time (previous_in h))) l (add_grows x (gap k.time (previous_in h)) f nonneg ahead)
