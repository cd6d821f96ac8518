-- How long each output has to last, by which it is. Assumes nothing.
use mathlib.Core.Path.{◌≡◌}
use mathlib.Core.Bool.{Bool, true, false}
use lib.Ieee.{Float}
use Rattle.dynamics.specs.Leaves.{positive_duration}
use Rattle.true_false_hold.specs.TrueFalseHold.{required}
use Rattle.true_false_hold.specs.declared.TrueFalseHold.{TrueFalseHold}

module _ (b : TrueFalseHold) (held : Bool) {x : Float} where
  pub required_true : held ≡ true → x ≡ positive_duration b.true_hold_duration → x ≡ required b held
  unfolding required
  required_true h x = simp h x

  pub required_false : held ≡ false → x ≡ positive_duration b.false_hold_duration → x ≡ required b held
  unfolding required
  required_false h x = simp h x
