-- Settings that are accepted are those that the published file works with. Assumes nothing.
use mathlib.Core.Path.{◌≡◌, refl, sym}
use mathlib.Core.Bool.{true, ◌&&◌, true≢false}
use denote.Floats.{passes, is_true}
use lib.Dec.{T}
use lib.Ieee.{Float, nan, inf, fin, lt, le, is_nan, round}
use lib.Ieee.Scale.{finite}
use Rattle.reals.proofs.Values.{both}
use Rattle.reals.proofs.Order.{le_transitive, le_not_lt}
use Rattle.dynamics.specs.Leaves.{raised_to}
use Rattle.logical_variable_pulse.specs.LogicalVariablePulse.{adjusted_period, least_delta, most_delta, least_hold, settings_accepted}
use Rattle.logical_variable_pulse.specs.Published.{min_delta_u, min_pulse_time, effective_delta_u, effective_min_hold, effective_period, greater, published_period}
use Rattle.logical_variable_pulse.specs.declared.LogicalVariablePulse.{LogicalVariablePulse}

-- what accepted settings are
pub record Within (b : LogicalVariablePulse) : Type 0 where
  pub period_finite : finite b.period ≡ true
  pub delta_finite : finite b.delta_u ≡ true
  pub hold_finite : finite b.min_true_false_hold ≡ true
  pub delta_least : le least_delta b.delta_u ≡ true
  pub delta_most : le b.delta_u most_delta ≡ true
  pub hold_least : le least_hold b.min_true_false_hold ≡ true

pub within : (b : LogicalVariablePulse) → settings_accepted b ≡ true → Within b
unfolding settings_accepted
within b all =
    let p = finite b.period in
    let d = finite b.delta_u in
    let h = finite b.min_true_false_hold in
    let least = le least_delta b.delta_u in
    let most = le b.delta_u most_delta in
    let long = le least_hold b.min_true_false_hold in
    let sides = both (p && d && h) (least && most && long) all in
    let finite_three = both (p && d) h sides.0 in
    let finite_two = both p d finite_three.0 in
    let limits = both (least && most) long sides.1 in
    let deltas = both least most limits.0 in
    record {
      period_finite = finite_two.0;
      delta_finite = finite_two.1;
      hold_finite = finite_three.1;
      delta_least = deltas.0;
      delta_most = deltas.1;
      hold_least = limits.1;
    }

-- the published limits lie outside ours
delta_below : T (le min_delta_u least_delta)
unfolding le round
delta_below = tt

hold_below : T (le min_pulse_time least_hold)
unfolding le round
hold_below = tt

-- `max` of a finite x and y is y where x is below it; a y that is a NaN gives way
raised : (x y : Float) → finite x ≡ true → greater x y ≡ raised_to y x
unfolding greater raised_to is_nan lt
raised nan y e = absurd (true≢false (sym e))
raised (inf s) y e = absurd (true≢false (sym e))
raised (fin s m k) nan e = refl
raised (fin s m k) (inf t) e = refl
raised (fin s m k) (fin t n d) e = refl

module _ (b : LogicalVariablePulse) (ok : settings_accepted b ≡ true) where
  pub same_delta : effective_delta_u b.delta_u ≡ b.delta_u
  unfolding effective_delta_u
  same_delta =
      let w = within b ok in
      let low = le_not_lt _ _ (le_transitive _ _ _ delta_below (passes _ w.delta_least)) in
      let high = le_not_lt _ _ (passes _ w.delta_most) in
      rw (w.delta_finite, low, high) refl

  pub same_hold : effective_min_hold b.min_true_false_hold ≡ b.min_true_false_hold
  unfolding effective_min_hold
  same_hold =
      let w = within b ok in
      let long = is_true (le min_pulse_time b.min_true_false_hold) (le_transitive _ _ _ hold_below (passes _ w.hold_least)) in
      rw (w.hold_finite, long) refl

  pub same_period : published_period b ≡ adjusted_period b
  unfolding published_period effective_period adjusted_period
  same_period = let w = within b ok in rw (w.period_finite, same_hold) (raised _ _ w.period_finite)
