-- Sound is yes exactly when a block's region is sound; a fresh start is sound, and each call keeps a sound region sound: for all eight. Assumes nothing.
use mathlib.Core.Path.{◌≡◌, refl, ◌∙◌, sym}
use mathlib.Core.Bool.{true, false}
use mathlib.Core.List.{List}
use Prim.Native.Nat.{ℕ}
use borrow.Author.Tests.{eqb-true, eq-eqb}
use Rattle.dynamics.specs.Machine.{Machine, decode_refusal, is_sound}
use Rattle.dynamics.specs.Stepped.{stepped_machine}
use Rattle.dynamics.specs.Sound.{StaysSound}
use Rattle.dynamics.proofs.Calls.{sound_decodes}
use Rattle.pid.proofs.Decoding as controllers
use Rattle.moving_average.proofs.Sounds as average
use Rattle.timer_accumulating.proofs.Decoding as accumulating
use Rattle.true_delay.proofs.Decoding as delay
use Rattle.true_false_hold.proofs.Decoding as false_hold
use Rattle.true_hold_with_reset.proofs.Decoding as reset_hold
use Rattle.logical_variable_pulse.proofs.Decoding as pulse
use Rattle.blocks.specs.Block.{machine_of}
use Rattle.blocks.specs.Sound.{Sound}
use Rattle.blocks.specs.declared.block.Block.{Block}
use Rattle.blocks.specs.declared.block.Block.TheVariants.{Pid, PidWithReset, MovingAverage, TimerAccumulating, TrueDelay, TrueFalseHold, TrueHoldWithReset, LogicalVariablePulse}

-- yes, and what it says
abbrev Exactly : Machine → List ℕ → Type 0 → Type 0
Exactly M w sound = (is_sound M w ≡ true → sound) × (sound → is_sound M w ≡ true)

-- where sound asks what decoding asks
as_decoding : (M : Machine) (w : List ℕ) → M.sound w ≡ M.decodes w → Exactly M w (decode_refusal M w ≡ 0)
as_decoding M w same = (λ e. eqb-true _ _ (sym (sound_decodes M w same) ∙ e), λ z. sound_decodes M w same ∙ eq-eqb _ _ z)

pub sound_exactly : (b : Block) (w : List ℕ) → Exactly (machine_of b) w (Sound b w)
unfolding machine_of stepped_machine
sound_exactly (Pid s) w = as_decoding _ w refl
sound_exactly (PidWithReset s) w = as_decoding _ w refl
sound_exactly (MovingAverage delta) w = (average.sound_means (record { delta = delta }) w, average.means_sound (record { delta = delta }) w)
sound_exactly (TimerAccumulating t) w = as_decoding _ w refl
sound_exactly (TrueDelay time on_init) w = as_decoding _ w refl
sound_exactly (TrueFalseHold long_true long_false) w = as_decoding _ w refl
sound_exactly (TrueHoldWithReset duration) w = as_decoding _ w refl
sound_exactly (LogicalVariablePulse period delta least) w = as_decoding _ w refl

pub stays_sound : (b : Block) → StaysSound (machine_of b)
unfolding machine_of
stays_sound (Pid s) = controllers.stays_sound false s
stays_sound (PidWithReset s) = controllers.stays_sound true s
stays_sound (MovingAverage delta) = average.stays_sound (record { delta = delta })
stays_sound (TimerAccumulating t) = accumulating.stays_sound (record { t = t })
stays_sound (TrueDelay time on_init) = delay.stays_sound (record { delay_time = time; delay_on_init = on_init })
stays_sound (TrueFalseHold long_true long_false) = false_hold.stays_sound (record { true_hold_duration = long_true; false_hold_duration = long_false })
stays_sound (TrueHoldWithReset duration) = reset_hold.stays_sound (record { duration = duration })
stays_sound (LogicalVariablePulse period delta least) = pulse.stays_sound (record { period = period; delta_u = delta; min_true_false_hold = least })
