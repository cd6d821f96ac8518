-- The limited controller's recurrence, rounding by rounding. Definitions only.
use Rattle.std.specs.Prelude.{Bool, cond, Float, Some}
use Rattle.std.specs.Float.Ieee.{lt}
use Rattle.reals.specs.Words.{0·0}
use Rattle.reals.specs.Arithmetic.{◌⊕◌, ◌⊖◌, ◌⊗◌, ◌⊘◌}
use Rattle.reals.specs.Rounding.{magnitude}
use Rattle.dynamics.specs.Previous.{gap, is_first}
use Rattle.dynamics.specs.Leaves.{accumulated, filtered, rising}
use Rattle.controller.specs.Settings.{with_i, with_d, direction, eps, k, ti, r, ni, derivative_gain, derivative_time}
use Rattle.controller.specs.Limit.{limit}
use Rattle.controller.specs.declared.config.ControllerConfig.{ControllerConfig}
use Rattle.controller.specs.declared.recurrence.State.{State}
use Rattle.controller.specs.declared.recurrence.Heard.{Heard}
use Rattle.controller.specs.declared.recurrence.Terms.{Terms}

-- ---- the terms

-- e = (dir * (u_s - u_m)) / r
unfoldable pub error : ControllerConfig → Heard → Float
error b i = (direction b.reverse_acting ⊗ (i.u_s ⊖ i.u_m)) ⊘ r b

-- y_p = k * e
unfoldable pub proportional : ControllerConfig → Float → Float
proportional b e = k b ⊗ e

-- y_d = 0.0 without D; yd_start on the first tick; else ((k * td) / (td / nd)) * (e - filter)
unfoldable pub derivative : ControllerConfig → State → Float → Float
derivative b s e =
    cond (with_d b.controller_type)
    (cond (is_first s.previous) b.yd_start ((derivative_gain b ⊘ derivative_time b) ⊗ (e ⊖ s.filter)))
    0·0

-- the integrator, 0.0 without I
unfoldable pub integral : ControllerConfig → State → Float
integral b s = cond (with_i b.controller_type) s.integrator 0·0

-- y_u = (y_p + y_d) + integrator, and y is the sum within the limits
unfoldable pub terms_of : ControllerConfig → State → Heard → Terms
terms_of b s i =
    let e = error b i in
    let y_p = proportional b e in
    let y_d = derivative b s e in
    let y_u = (y_p ⊕ y_d) ⊕ integral b s in
    record { e = e; y_p = y_p; y_d = y_d; y_u = y_u; y = limit b y_u }

-- ---- the integrator

-- on a rising trigger: y_reset - (y_p + y_d)
unfoldable pub solved_back : ControllerConfig → Terms → Float
solved_back b y = b.y_reset ⊖ (y.y_p ⊕ y.y_d)

-- (k / ti) * (e - (y_u - y) / (k * ni))
unfoldable pub integral_rate : ControllerConfig → Terms → Float
integral_rate b y = (k b ⊘ ti b) ⊗ (y.e ⊖ (y.y_u ⊖ y.y) ⊘ (k b ⊗ ni b))

unfoldable pub next_integrator : ControllerConfig → State → Terms → Float → Bool → Float
next_integrator b s y dt trigger =
    cond (with_i b.controller_type)
    (cond (rising trigger s.trigger) (solved_back b y) (accumulated s.integrator (integral_rate b y) dt))
    0·0

-- ---- the filter

-- before the first tick: e if |k * td| < 1e-15, else e - ((T * yd_start) / (k * td))
unfoldable pub filter_at_start : ControllerConfig → Float → Float
filter_at_start b e = cond (lt (magnitude (derivative_gain b)) eps) e (e ⊖ (derivative_time b ⊗ b.yd_start) ⊘ derivative_gain b)

unfoldable pub filter_before : ControllerConfig → State → Float → Float
filter_before b s e = cond (is_first s.previous) (filter_at_start b e) s.filter

-- implicit, T = td / nd
unfoldable pub next_filter : ControllerConfig → State → Float → Float → Float
next_filter b s e dt = cond (with_d b.controller_type) (filtered (filter_before b s e) e (derivative_time b) dt) 0·0

-- ---- the state after a tick, by the tick's terms

unfoldable pub state_after : ControllerConfig → State → Terms → Float → Bool → State
state_after b s y time trigger =
    let dt = gap time s.previous in
    record {
      integrator = next_integrator b s y dt trigger;
      previous = Some time;
      filter = next_filter b s y.e dt;
      trigger = trigger;
    }

unfoldable pub next_state : ControllerConfig → State → Float → Heard → State
next_state b s time i = state_after b s (terms_of b s i) time i.trigger
