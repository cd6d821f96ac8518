-- `TimerAccumulating` case by case: what each definition is where the tests before it have gone as said. Assumes nothing.
use mathlib.Core.Path.{◌≡◌}
use mathlib.Core.Bool.{Bool, true, false, ◌&&◌}
use lib.Ieee.{Float, binary64, add, le}
use Rattle.reals.specs.Words.{0·0}
use Rattle.dynamics.specs.Previous.{gap}
use Rattle.dynamics.specs.Leaves.{rising}
use Rattle.timer_accumulating.specs.TimerAccumulating.{counts, y_now, passed_now}
use Rattle.timer_accumulating.specs.declared.TimerAccumulating.{TimerAccumulating}
use Rattle.timer_accumulating.specs.declared.state.State.{State}

module _ (s : State) (time : Float) (input wipes : Bool) where
  pub y_wiped : wipes ≡ true → 0·0 ≡ y_now s time input wipes
  unfolding y_now
  y_wiped r = simp r

  pub y_grown : {dt : Float} → wipes ≡ false → counts s input ≡ true → dt ≡ gap time s.previous → add binary64 s.total dt ≡ y_now s time input wipes
  unfolding y_now
  y_grown r c d = simp (r, c, d)

  pub y_kept : wipes ≡ false → counts s input ≡ false → s.total ≡ y_now s time input wipes
  unfolding y_now
  y_kept r c = simp (r, c)

module _ (b : TimerAccumulating) (s : State) (input wipes : Bool) (y : Float) where
  pub passed_wiped : wipes ≡ true → le b.t 0·0 ≡ passed_now b s input wipes y
  unfolding passed_now
  passed_wiped r = simp r

  pub passed_sampled : wipes ≡ false → rising input s.input ≡ true → le b.t s.total ≡ passed_now b s input wipes y
  unfolding passed_now
  passed_sampled r i = simp (r, i)

  pub passed_reached : wipes ≡ false → rising input s.input ≡ false → input && le b.t y ≡ true → true ≡ passed_now b s input wipes y
  unfolding passed_now
  passed_reached r i u = simp (r, i, u)

  pub passed_held : wipes ≡ false → rising input s.input ≡ false → input && le b.t y ≡ false → s.passed ≡ passed_now b s input wipes y
  unfolding passed_now
  passed_held r i u = simp (r, i, u)
