-- Demand 3 for the blocks that a tick can wipe, over the definitions that the public calls cite. Assumes nothing.
use mathlib.Core.Path.{◌≡◌, refl, sym}
use mathlib.Core.Bool.{true, true≢false}
use mathlib.Core.List.{List}
use Prim.Native.Nat.{ℕ}
use Rattle.dynamics.specs.Machine.{is_sound, decode_answer}
use Rattle.dynamics.specs.History.{History, RetoldFromWiping, RetoldFromStart, AlikeFromWiping, AnswersWiping, ReadFromWiping, ReadFromStart, ReadAlikeFromWiping}
use Rattle.dynamics.proofs.Histories.{WipedWords, Kept, from_wiping, from_start, alike, read_from_wiping, read_from_start, read_alike}
use Rattle.controller.specs.declared.config.ControllerType.{ControllerType}
use Rattle.controller.specs.declared.config.ControllerType.TheVariants.{P, Pi, Pd}
use Rattle.controller.specs.declared.config.ControllerType.TheVariants as type
use Rattle.pid.proofs.Wiping as controllers
use Rattle.timer_accumulating.proofs.Wiping as accumulating
use Rattle.true_delay.specs.declared.TrueDelay.{TrueDelay as Delay}
use Rattle.true_delay.proofs.Wiping as delay
use Rattle.true_hold_with_reset.specs.declared.TrueHoldWithReset.{TrueHoldWithReset as ResetHold}
use Rattle.true_hold_with_reset.proofs.Wiping as reset_hold
use Rattle.blocks.specs.Block.{machine_of}
use Rattle.std.specs.Prelude.{Some}
use Rattle.blocks.specs.Named.{named_by}
use Rattle.blocks.specs.Decoded.{state_of, zeros}
use Rattle.blocks.specs.Wiping.{is_pi, wipeable, answers_wiping, account_of, SettingsF64}
use Rattle.blocks.specs.declared.block.Block.{Block}
use Rattle.blocks.specs.declared.block.Block.TheVariants.{Pid, PidWithReset, MovingAverage, TimerAccumulating, TrueDelay, TrueFalseHold, TrueHoldWithReset, LogicalVariablePulse}
use Rattle.blocks.proofs.Names.{settings_f64}

pi_mode : (t : ControllerType) → is_pi t ≡ true → t ≡ Pi
pi_mode P e = absurd (true≢false (sym e))
pi_mode Pi e = refl
pi_mode Pd e = absurd (true≢false (sym e))
pi_mode type.Pid e = absurd (true≢false (sym e))

-- such a block's steps keep its account: what is known of a history, and that it is kept
pub record Keeps (b : Block) : Type 1 where
  pub good : History → Type 0
  pub kept : Kept (machine_of b) (account_of b) good

keeps : (b : Block) → wipeable b ≡ true → SettingsF64 b → Keeps b
unfolding machine_of account_of
keeps (Pid s) w f = absurd (true≢false (sym w))
keeps (PidWithReset s) w f = record { good = controllers.Good; kept = controllers.kept s (pi_mode _ w) f }
keeps (MovingAverage delta) w f = absurd (true≢false (sym w))
keeps (TimerAccumulating t) w f = record { good = accumulating.Good; kept = accumulating.kept (record { t = t }) }
keeps (TrueDelay time on_init) w f =
    let b : Delay = record { delay_time = time; delay_on_init = on_init } in
    record { good = delay.Good b f; kept = delay.kept b f }
keeps (TrueFalseHold long_true long_false) w f = absurd (true≢false (sym w))
keeps (TrueHoldWithReset duration) w f =
    let b : ResetHold = record { duration = duration } in
    record { good = reset_hold.Good b; kept = reset_hold.kept b }
keeps (LogicalVariablePulse period delta least) w f = absurd (true≢false (sym w))

-- a wiping tick leaves its own words
pub wiped_words : (b : Block) → wipeable b ≡ true → WipedWords (machine_of b) (account_of b)
unfolding machine_of account_of
wiped_words (Pid s) w = absurd (true≢false (sym w))
wiped_words (PidWithReset s) w = controllers.wiped_words s (pi_mode _ w)
wiped_words (MovingAverage delta) w = absurd (true≢false (sym w))
wiped_words (TimerAccumulating t) w = accumulating.wiped_words (record { t = t })
wiped_words (TrueDelay time on_init) w = delay.wiped_words (record { delay_time = time; delay_on_init = on_init })
wiped_words (TrueFalseHold long_true long_false) w = absurd (true≢false (sym w))
wiped_words (TrueHoldWithReset duration) w = reset_hold.wiped_words (record { duration = duration })
wiped_words (LogicalVariablePulse period delta least) w = absurd (true≢false (sym w))

-- ---- whatever the settings are
module _ (b : Block) (wipes : wipeable b ≡ true) where
  -- any two regions that the same tick wipes are alike from then on
  pub wiped_alike : AlikeFromWiping (machine_of b) (account_of b)
  wiped_alike = alike (machine_of b) (account_of b) (wiped_words b wipes)

  -- also to the calls that only read
  pub sound_alike : ReadAlikeFromWiping (machine_of b) (account_of b) (is_sound (machine_of b))
  sound_alike = read_alike (machine_of b) (account_of b) (wiped_words b wipes) (is_sound (machine_of b))

  pub decode_alike : ReadAlikeFromWiping (machine_of b) (account_of b) (decode_answer (machine_of b) (state_of b) (zeros b))
  decode_alike = read_alike (machine_of b) (account_of b) (wiped_words b wipes) (decode_answer (machine_of b) (state_of b) (zeros b))

-- a timer's own answer on a wiping tick
pub wiping_answer : (b : Block) → answers_wiping b ≡ true → AnswersWiping (machine_of b) (account_of b)
unfolding machine_of account_of
wiping_answer (Pid s) w = absurd (true≢false (sym w))
wiping_answer (PidWithReset s) w = absurd (true≢false (sym w))
wiping_answer (MovingAverage delta) w = absurd (true≢false (sym w))
wiping_answer (TimerAccumulating t) w = accumulating.wiping_answer (record { t = t })
wiping_answer (TrueDelay time on_init) w = delay.wiping_answer (record { delay_time = time; delay_on_init = on_init })
wiping_answer (TrueFalseHold long_true long_false) w = absurd (true≢false (sym w))
wiping_answer (TrueHoldWithReset duration) w = reset_hold.wiping_answer (record { duration = duration })
wiping_answer (LogicalVariablePulse period delta least) w = absurd (true≢false (sym w))

-- ---- settings that are f64
module _ (b : Block) (wipes : wipeable b ≡ true) (f64 : SettingsF64 b) where
  -- after a wiping tick it is what the ticks from that one on say
  pub told : RetoldFromWiping (machine_of b) (account_of b)
  told = let k = keeps b wipes f64 in from_wiping (machine_of b) (account_of b) k.good k.kept

  -- and from a fresh start it is what the ticks since say
  pub told_from_start : RetoldFromStart (machine_of b) (account_of b)
  told_from_start = let k = keeps b wipes f64 in from_start (machine_of b) (account_of b) k.good k.kept

  -- sound and decode after any of these calls: sound is yes, and the state is what the history's words mean
  pub read_told : ReadFromWiping (machine_of b) (account_of b) (state_of b) (zeros b)
  read_told = let k = keeps b wipes f64 in read_from_wiping (machine_of b) (account_of b) k.good k.kept (state_of b) (zeros b)

  pub read_told_from_start : ReadFromStart (machine_of b) (account_of b) (state_of b) (zeros b)
  read_told_from_start = let k = keeps b wipes f64 in read_from_start (machine_of b) (account_of b) k.good k.kept (state_of b) (zeros b)

-- ---- a block that words name has such settings: so it is for every number and all words
module _ (n : ℕ) (w : List ℕ) (b : Block) (is : named_by n w ≡ Some b) (wipes : wipeable b ≡ true) where
  pub told_named : RetoldFromWiping (machine_of b) (account_of b)
  told_named = told b wipes (settings_f64 n w b is)

  pub told_named_from_start : RetoldFromStart (machine_of b) (account_of b)
  told_named_from_start = told_from_start b wipes (settings_f64 n w b is)

  pub read_named : ReadFromWiping (machine_of b) (account_of b) (state_of b) (zeros b)
  read_named = read_told b wipes (settings_f64 n w b is)

  pub read_named_from_start : ReadFromStart (machine_of b) (account_of b) (state_of b) (zeros b)
  read_named_from_start = read_told_from_start b wipes (settings_f64 n w b is)
