-- Demand 3 for `PidWithReset` in PI mode: its steps keep its account. Assumes nothing.
use mathlib.Core.Path.{◌≡◌, refl, ap, ◌∙◌}
use mathlib.Core.Bool.{Bool, true, false, cond}
use mathlib.Core.List.{List}
use Prim.Native.Nat.{ℕ}
use lib.Dec.{T}
use lib.ListN.{get_or}
use lib.Ieee.{binary64, fits}
use lib.Ieee.Fits.{add-fits, sub-fits}
use Rattle.reals.specs.Words.{flag_of}
use Rattle.reals.proofs.Words.{flag_back, real_word}
use Rattle.dynamics.specs.Previous.{sound_previous}
use Rattle.dynamics.specs.Leaves.{accumulated, rising}
use Rattle.dynamics.specs.Machine.{Tick}
use Rattle.dynamics.specs.Stepped.{stepped_machine}
use Rattle.dynamics.specs.History.{History, started, wiped, followed, previous_in, grown, RetoldFromWiping, AlikeFromWiping, RetoldFromStart}
use Rattle.dynamics.proofs.Histories.{WipedWords, Kept, time_back, grown_sound, from_wiping, from_start, alike}
use Rattle.controller.specs.Recurrence.{derivative, integral, terms_of, solved_back, next_integrator, next_filter, state_after, next_state}
use Rattle.controller.specs.declared.config.ControllerType.TheVariants.{Pi}
use Rattle.controller.specs.declared.config.ControllerConfig.{ControllerConfig}
use Rattle.controller.specs.declared.recurrence.State.{State}
use Rattle.pid.specs.Pid.{machine, heard, state_of, words_of}
use Rattle.pid.specs.Account.{trigger_of, wipes, terms_in, integrator, state_told, account}

-- what is known of a history: its newest time is unset or finite
abbrev pub Good : History → Type 0
Good h = sound_previous (previous_in h) ≡ true

-- whatever its numbers are
module _ (b : ControllerConfig) (pi : b.controller_type ≡ Pi) where
  -- no derivative term
  terms_told : (s : State) (k : Tick) → terms_of b s (heard true k.inputs) ≡ terms_in b s.integrator k
  unfolding terms_of derivative integral terms_in
  terms_told s k = simp pi

  -- a rising trigger wipes, whatever the state was
  wiped_state : (s : State) (k : Tick) → rising (trigger_of k) s.trigger ≡ true → next_state b s k.time (heard true k.inputs) ≡ state_told b (wiped k)
  unfolding next_state state_after next_integrator next_filter solved_back terms_in state_told integrator heard
  wiped_state s k r = simp (terms_told s k, pi, r)

  stored_trigger : (w : List ℕ) → (state_of b.controller_type true w).trigger ≡ flag_of (get_or w 2 0)
  unfolding state_of
  stored_trigger w = simp pi

  -- the words of a PI controller
  abbrev words : State → List ℕ
  words s = words_of b.controller_type true s

  words_told : (s : State) → words s ≡ words_of Pi true s
  words_told s = ap (λ t. words_of t true s) pi

  pub wiped_words : WipedWords (machine true b) (account b)
  unfolding stepped_machine
  wiped_words k w p = ap words (wiped_state (state_of b.controller_type true w) k (rw (stored_trigger w) p.wiping)) ∙ words_told (state_told b (wiped k))

  pub wiped_alike : AlikeFromWiping (machine true b) (account b)
  wiped_alike = alike (machine true b) (account b) wiped_words

  -- the next state is the history's
  state_next : (k : Tick) (h : History) → next_state b (state_told b h) k.time (heard true k.inputs) ≡ state_told b (grown wipes h k)
  unfolding next_state state_after next_integrator next_filter solved_back terms_in state_told integrator heard
  state_next k h = go (wipes k h) refl
    where
      go : (w : Bool) → wipes k h ≡ w → next_state b (state_told b h) k.time (heard true k.inputs) ≡ state_told b (cond w (wiped k) (followed h k))
      go true r = simp (terms_told (state_told b h) k, pi, r)
      go false r = simp (terms_told (state_told b h) k, pi, r)

  -- where xi_start is an f64, as every setting that a call brings is: a later start stores it
  module _ (xi : T (fits binary64 b.xi_start)) where
    -- an integrator is a rounded sum or difference, or the setting
    integrator_f64 : (h : History) → T (fits binary64 (integrator b h))
    unfolding integrator accumulated
    integrator_f64 started = xi
    integrator_f64 (wiped k) = sub-fits binary64 _ _
    integrator_f64 (followed h k) = add-fits binary64 _ _

    -- a history's words are read back
    held : (h : History) → state_of b.controller_type true (words_of Pi true (state_told b h)) ≡ state_told b h
    unfolding state_of words_of state_told
    held h = simp (pi, real_word (integrator b h) (integrator_f64 h), time_back h, flag_back)

    pub kept : Kept (machine true b) (account b) Good
    unfolding stepped_machine
    kept = record {
      quiet = λ w time i. refl;
      sound_asks = λ w. refl;
      counted = λ h. unfold words_of in simp pi;
      decodes = λ h g. rw (held h) (unfold state_told in g);
      previous = λ h g. rw (held h) (unfold state_told in refl);
      fresh = unfold words_of state_told integrator in simp pi;
      good_fresh = refl;
      wiped_words = wiped_words;
      good_wiped = λ k f. f;
      output = λ k h g ok. rw (held h, terms_told (state_told b h) k) (unfold state_told in refl);
      after = λ k h g ok. rw (held h) (ap words (state_next k h) ∙ words_told (state_told b (grown wipes h k)));
      good = λ k h g ok. grown_sound wipes k h ok;
    }

    pub told : RetoldFromWiping (machine true b) (account b)
    told = from_wiping (machine true b) (account b) Good kept

    pub told_from_start : RetoldFromStart (machine true b) (account b)
    told_from_start = from_start (machine true b) (account b) Good kept
