-- No call changes how many words a region has, a block has few, and which refusals are left once the form is right. Assumes nothing.
use mathlib.Core.Path.{◌≡◌, refl, sym, ◌∙◌}
use mathlib.Core.Bool.{Bool, true, false, not, ◌||◌}
use mathlib.Core.List.{List}
use Prim.Native.Nat.{ℕ, zero, suc, ◌≤◌}
use borrow.Author.Tests.{eqb-true}
use lib.Dec.{eqb, lit≤}
use lib.ListN.{length}
use lib.Ieee.{Float}
use lib.Ieee.Scale.{finite}
use Rattle.dynamics.specs.Previous.{runs_back}
use Rattle.dynamics.specs.Answer.{refusal_of, skipped, accept}
use Rattle.dynamics.specs.Machine.{Machine, sized, start_refusal, tick_refusal, started_words, updated_words}
use Rattle.dynamics.specs.Stepped.{Stepped, stepped_machine}
use Rattle.dynamics.specs.declared.call.Inputs.{Inputs}
use Rattle.dynamics.proofs.Calls.{start_sized, tick_sized}
use Rattle.controller.specs.declared.config.ControllerType.{ControllerType}
use Rattle.controller.specs.declared.config.ControllerType.TheVariants.{P, Pi, Pd}
use Rattle.controller.specs.declared.config.ControllerType.TheVariants as type
use Rattle.window.proofs.Sizes.{length_most}
use Rattle.pid.specs.Pid.{state_length}
use Rattle.pid.specs.Pid as controllers
use Rattle.hold.specs.Hold.{counted}
use Rattle.moving_average.specs.MovingAverage.{machine_for}
use Rattle.moving_average.proofs.Rules.{tick_length, fresh_length}
use Rattle.timer_accumulating.specs.TimerAccumulating as accumulating
use Rattle.true_delay.specs.TrueDelay as delay
use Rattle.true_false_hold.specs.TrueFalseHold as false_hold
use Rattle.true_hold_with_reset.specs.TrueHoldWithReset as reset_hold
use Rattle.logical_variable_pulse.specs.LogicalVariablePulse as pulse
use Rattle.blocks.specs.Block.{machine_of, fresh}
use Rattle.blocks.specs.declared.block.Block.{Block}
use Rattle.blocks.specs.declared.block.Block.TheVariants.{Pid, PidWithReset, MovingAverage, TimerAccumulating, TrueDelay, TrueFalseHold, TrueHoldWithReset, LogicalVariablePulse}

-- a machine's words are as many as it says, and few
pub record Measured (M : Machine) : Type 0 where
  pub fresh_sized : length M.fresh ≡ M.size
  pub after_sized : (time : Float) (i : Inputs) (w : List ℕ) → tick_refusal M time w ≡ 0 → length (M.after w time i) ≡ length w
  pub few : M.size ≤ 262158

-- a block whose words are a state record
stepped : {S : Type 0} (B : Stepped S) → ((s : S) → length (B.words_of s) ≡ B.size) → B.size ≤ 262158 → Measured (stepped_machine B)
unfolding stepped_machine
stepped B counted few = record {
  fresh_sized = counted B.initial;
  after_sized = λ time i w ok. counted _ ∙ sym (eqb-true _ _ (tick_sized (stepped_machine B) time i w ok));
  few = few;
}

controller_few : (t : ControllerType) (reset : Bool) → state_length t reset ≤ 262158
controller_few P reset = lit≤ tt
controller_few Pi true = lit≤ tt
controller_few Pi false = lit≤ tt
controller_few Pd reset = lit≤ tt
controller_few type.Pid true = lit≤ tt
controller_few type.Pid false = lit≤ tt

pub measured : (b : Block) → Measured (machine_of b)
unfolding machine_of
measured (Pid s) = stepped (controllers.block false s) (controllers.counted s.controller_type false) (controller_few s.controller_type false)
measured (PidWithReset s) = stepped (controllers.block true s) (controllers.counted s.controller_type true) (controller_few s.controller_type true)
measured (MovingAverage delta) = record {
  fresh_sized = fresh_length (record { delta = delta });
  after_sized = λ time i w ok. tick_length (record { delta = delta }) time i w ok;
  few = unfold machine_for in length_most delta;
}
measured (TimerAccumulating t) = stepped (accumulating.block (record { t = t })) (accumulating.counted (record { t = t })) (lit≤ tt)
measured (TrueDelay time on_init) = stepped (delay.block (record { delay_time = time; delay_on_init = on_init })) (delay.counted (record { delay_time = time; delay_on_init = on_init })) (lit≤ tt)
measured (TrueFalseHold long_true long_false) = stepped (false_hold.block (record { true_hold_duration = long_true; false_hold_duration = long_false })) counted (lit≤ tt)
measured (TrueHoldWithReset duration) = stepped (reset_hold.block (record { duration = duration })) counted (lit≤ tt)
measured (LogicalVariablePulse period delta least) = stepped (pulse.block (record { period = period; delta_u = delta; min_true_false_hold = least })) (pulse.counted (record { period = period; delta_u = delta; min_true_false_hold = least })) (lit≤ tt)

-- ---- what a start and an update leave has the region's length, refused or not
accept_length : (n : ℕ) (v w : List ℕ) → (n ≡ 0 → length v ≡ length w) → length (accept n v w) ≡ length w
unfolding accept
accept_length zero v w e = e refl
accept_length (suc n) v w e = refl

pub started_length : (b : Block) (w : List ℕ) → length (started_words (machine_of b) w) ≡ length w
unfolding started_words
started_length b w =
    accept_length (start_refusal (machine_of b) w) (fresh b) w
    (λ z. (measured b).fresh_sized ∙ sym (eqb-true _ _ (start_sized (machine_of b) w z)))

pub updated_length : (b : Block) (time : Float) (i : Inputs) (w : List ℕ) → length (updated_words (machine_of b) time i w) ≡ length w
unfolding updated_words
updated_length b time i w = accept_length (tick_refusal (machine_of b) time w) ((machine_of b).after w time i) w ((measured b).after_sized time i w)

-- ---- with settings accepted, the right length and a finite time a refusal is 0, 6 or 7
pub later : (M : Machine) (time : Float) (w : List ℕ) → M.accepts ≡ true → sized M w ≡ true → finite time ≡ true
    → let n = tick_refusal M time w in (eqb n 0 || eqb n 6) || eqb n 7 ≡ true
unfolding tick_refusal
later M time w settings length t = rw (settings, length, t) (go (M.decodes w) (not (runs_back time (M.previous w))))
  where
    go : (state order : Bool) → let n = refusal_of skipped true true skipped true state order in (eqb n 0 || eqb n 6) || eqb n 7 ≡ true
    go false order = unfold refusal_of in refl
    go true false = unfold refusal_of in refl
    go true true = unfold refusal_of in refl
