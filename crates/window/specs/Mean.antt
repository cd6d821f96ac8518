-- The mean over a window: the integral between two points, and what it is divided by. Definitions only.
use Rattle.std.specs.Prelude.{cond, Float}
use Rattle.std.specs.Float.Ieee.{le, eq}
use Rattle.reals.specs.Words.{nearest, 0·0}
use Rattle.reals.specs.Arithmetic.{◌⊕◌, ◌⊖◌, ◌⊗◌, ◌⊘◌}
use Rattle.window.specs.declared.mean.Point.{Point}

-- the integral up to the target on the line through two points; the second one's where they have the same time
unfoldable pub on_line : Point → Point → Float → Float
on_line a b target =
    let den = b.time ⊖ a.time in
    cond (eq den 0·0) b.mu
    (a.mu ⊕ (b.mu ⊖ a.mu) ⊗ ((target ⊖ a.time) ⊘ den))

-- d is delta if t >= start + delta, else (t - start) + 1e-3
unfoldable pub divisor : Float → Float → Float → Float
divisor start delta t = cond (le (start ⊕ delta) t) delta ((t ⊖ start) ⊕ nearest 1 1000)
