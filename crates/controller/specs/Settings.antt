-- A controller's settings as its recurrence takes them. Definitions only.
use Rattle.std.specs.Prelude.{◌^◌, Bool, true, false, ◌&&◌, Float}
use Rattle.std.specs.Float.Ieee.{neg}
use Rattle.std.specs.Float.Ieee.Scale.{finite}
use Rattle.reals.specs.Words.{1·0, nearest}
use Rattle.reals.specs.Arithmetic.{◌⊗◌, ◌⊘◌}
use Rattle.dynamics.specs.Leaves.{raised_to}
use Rattle.controller.specs.declared.config.ControllerType.{ControllerType}
use Rattle.controller.specs.declared.config.ControllerType.TheVariants.{P, Pi, Pd, Pid}
use Rattle.controller.specs.declared.config.ControllerConfig.{ControllerConfig}

-- each of the eleven numbers is finite, in every type
unfoldable pub settings_accepted : ControllerConfig → Bool
settings_accepted b =
    finite b.k && finite b.ti && finite b.td && finite b.r && finite b.y_max && finite b.y_min && finite b.ni && finite b.nd
    && finite b.xi_start && finite b.yd_start && finite b.y_reset

-- whether there is an integrator, and a derivative filter
abbrev pub with_i : ControllerType → Bool
with_i P = false
with_i Pi = true
with_i Pd = false
with_i Pid = true

abbrev pub with_d : ControllerType → Bool
with_d P = false
with_d Pi = false
with_d Pd = true
with_d Pid = true

-- dir: 1 if reverse_acting, else -1
abbrev pub direction : Bool → Float
direction true = 1·0
direction false = neg 1·0

-- k, ti, td, r, ni, nd are replaced by the f64 product 100.0 * 1e-15 where smaller
unfoldable pub eps : Float
eps = nearest 1 (10 ^ 15)

unfoldable pub least : Float
least = nearest 100 1 ⊗ eps

unfoldable pub effective : Float → Float
effective x = raised_to least x

module _ (b : ControllerConfig) where
  abbrev pub k : Float
  k = effective b.k

  abbrev pub ti : Float
  ti = effective b.ti

  abbrev pub td : Float
  td = effective b.td

  abbrev pub r : Float
  r = effective b.r

  abbrev pub ni : Float
  ni = effective b.ni

  abbrev pub nd : Float
  nd = effective b.nd

  -- k * td, and the filter's time constant T = td / nd
  unfoldable pub derivative_gain : Float
  derivative_gain = k ⊗ td

  unfoldable pub derivative_time : Float
  derivative_time = td ⊘ nd
