-- What the published file makes of settings that lie outside its own limits. Within ours it changes none: `proofs/Limits.antt`. Definitions only.
use Rattle.std.specs.Prelude.{◌^◌, ◌&&◌, cond, Float}
use Rattle.std.specs.Float.Ieee.{lt, le, is_nan}
use Rattle.std.specs.Float.Ieee.Scale.{finite}
use Rattle.reals.specs.Words.{nearest, 1·0}
use Rattle.reals.specs.Arithmetic.{◌⊗◌}
use Rattle.logical_variable_pulse.specs.LogicalVariablePulse.{2·02}
use Rattle.logical_variable_pulse.specs.declared.LogicalVariablePulse.{LogicalVariablePulse}

-- its `MIN_DELTA_U`, `MAX_DELTA_U` and `MIN_VARIABLE_PULSE_TIME`
abbrev pub min_delta_u : Float
min_delta_u = nearest 1 1000

abbrev pub max_delta_u : Float
max_delta_u = nearest 1 2

abbrev pub min_pulse_time : Float
min_pulse_time = nearest 1 (10 ^ 37)

-- `effective_delta_u`: clamped between the first two, and 0.01 for one that is not finite
unfoldable pub effective_delta_u : Float → Float
effective_delta_u x = cond (finite x) (cond (lt x min_delta_u) min_delta_u (cond (lt max_delta_u x) max_delta_u x)) (nearest 1 100)

-- `effective_min_hold`: at least the third
unfoldable pub effective_min_hold : Float → Float
effective_min_hold x = cond (finite x && le min_pulse_time x) x min_pulse_time

-- `effective_period`: 1.0 for one that is not finite
unfoldable pub effective_period : Float → Float
effective_period x = cond (finite x) x 1·0

-- f64's `max`: a NaN gives way
unfoldable pub greater : Float → Float → Float
greater x y = cond (is_nan x) y (cond (is_nan y) x (cond (lt x y) y x))

-- `adjusted_period`
unfoldable pub published_period : LogicalVariablePulse → Float
published_period b = greater (effective_period b.period) (effective_min_hold b.min_true_false_hold ⊗ 2·02)
