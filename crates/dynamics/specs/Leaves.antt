-- The small steps that blocks share. Definitions only.
use Rattle.std.specs.Prelude.{Bool, true, false, cond, Float}
use Rattle.std.specs.Float.Ieee.{lt}
use Rattle.reals.specs.Words.{0·0, 1·0}
use Rattle.reals.specs.Arithmetic.{◌⊕◌, ◌⊗◌, ◌⊘◌}
use Rattle.dynamics.specs.declared.leaf.Timed.{Timed}

-- x + (rate * gap)
unfoldable pub accumulated : Float → Float → Float → Float
accumulated x rate gap = x ⊕ (rate ⊗ gap)

-- with a = gap / T: (x + (a * u)) / (1 + a)
unfoldable pub filtered : Float → Float → Float → Float → Float
filtered x u T gap =
    let a = gap ⊘ T in
    (x ⊕ (a ⊗ u)) ⊘ (1·0 ⊕ a)

-- itself if above 0, else +0.0; so a NaN is +0.0
unfoldable pub positive_duration : Float → Float
positive_duration x = cond (lt 0·0 x) x 0·0

-- x, and where x is smaller, the least that is allowed
unfoldable pub raised_to : Float → Float → Float
raised_to least x = cond (lt x least) least x

-- a true one after a false one
abbrev pub rising : Bool → Bool → Bool
rising now true = false
rising now false = now

-- what a tick of a delay or a hold gives: its output, and the timer to store
abbrev pub timed : Bool → Float → Timed
timed y timer = record { y = y; timer = timer }
