-- Demand 3 for `TrueHoldWithReset`: its steps keep its account. Assumes nothing.
use Rattle.std.specs.Prelude.{None, Some}
use mathlib.Core.Path.{◌≡◌, refl, sym, ap}
use mathlib.Core.Bool.{Bool, true, false, ◌&&◌, ◌||◌, cond}
use mathlib.Core.List.{List}
use Prim.Native.Nat.{ℕ}
use lib.Dec.{T}
use lib.Ieee.{Float, binary64, fits, add, lt, le}
use lib.Ieee.Fits.{add-fits}
use Rattle.reals.specs.Words.{0·0}
use Rattle.dynamics.specs.Previous.{sound_previous, gap, is_first}
use Rattle.dynamics.specs.Leaves.{positive_duration, timed}
use Rattle.dynamics.specs.Machine.{Tick}
use Rattle.dynamics.specs.Stepped.{stepped_machine}
use Rattle.dynamics.specs.History.{History, started, wiped, followed, previous_in, refused_after, grown, RetoldFromWiping, AlikeFromWiping, AnswersWiping, RetoldFromStart}
use Rattle.dynamics.specs.declared.leaf.Timed.{Timed}
use Rattle.dynamics.proofs.Gaps.{zero_nonneg, zero_f64, either, sum_nonneg}
use Rattle.dynamics.proofs.Histories.{WipedWords, Kept, newest_grown, time_back, grown_sound, from_wiping, from_start, alike, answers_wiping}
use Rattle.hold.specs.Hold.{state_of, words_of, outputs}
use Rattle.true_hold_with_reset.specs.TrueHoldWithReset.{machine, run_time, holds, output_and_timer, next, advance}
use Rattle.true_hold_with_reset.specs.Account.{input_of, clear_of, wipes, holding, sum, HoldSays, state_after, account}
use Rattle.true_hold_with_reset.specs.declared.TrueHoldWithReset.{TrueHoldWithReset}
use Rattle.true_hold_with_reset.proofs.Durations.{below_positive}
use Rattle.hold.proofs.Decoding.{read_back}

abbrev off : Timed
off = timed false 0·0

-- what is stored of a hold: its sum while it is true
abbrev stored : Bool → Float → Timed
stored on sum = timed on (cond on sum 0·0)

-- what is stored after a tick: x is the sum before it with its gap on top, d the duration
abbrev onward : (was input : Bool) (x d : Float) → Timed
onward was input x d = stored (input || (was && lt x d)) (cond was x 0·0)

-- the stored timer serves as the sum, since it is read only while the hold is true: x is the sum before the tick, p the positive duration
run_next : (was input : Bool) (x since p d : Float) → lt (add binary64 x since) p ≡ lt (add binary64 x since) d
    → let timer = cond was (add binary64 (cond was x 0·0) since) 0·0 in
    cond (input || (was && lt timer p)) (timed true timer) off ≡ onward was input (add binary64 x since) d
run_next true true x since p d e = refl
run_next false true x since p d e = refl
run_next true false x since p d e = rw e (go (lt (add binary64 x since) d))
  where
    go : (t : Bool) → cond t (timed true (add binary64 x since)) off ≡ stored t (add binary64 x since)
    go true = refl
    go false = refl
run_next false false x since p d e = refl

module _ (b : TrueHoldWithReset) where
  -- the hold's sentence
  pub hold_says : HoldSays b
  unfolding holding
  hold_says h k = go (holding b h) (add binary64 (sum b h) (gap k.time (previous_in h)))
    where
      go : (was : Bool) (x : Float) → input_of k || (was && lt x b.duration) ≡ input_of k || (was && lt (cond was x 0·0) b.duration)
      go true x = refl
      go false x = refl

  -- what is stored after a history
  abbrev stored_in : History → Timed
  stored_in h = stored (holding b h) (sum b h)

  -- the first tick after a start follows the same rule, since no hold is true before it
  first_next : (h : History) (k : Tick) {t : Timed} → t ≡ stored_in (followed h k) → cond (is_first (previous_in h)) (timed (input_of k) 0·0) t ≡ stored_in (followed h k)
  unfolding holding
  first_next started k e = go (input_of k)
    where
      go : (input : Bool) → timed input 0·0 ≡ stored (input || false) 0·0
      go true = refl
      go false = refl
  first_next (wiped j) k e = e
  first_next (followed h j) k e = e

  sum_f64 : (h : History) → T (fits binary64 (sum b h))
  unfolding sum
  sum_f64 started = zero_f64
  sum_f64 (wiped k) = zero_f64
  sum_f64 (followed h k) = either (λ x. T (fits binary64 x)) (holding b h) (add-fits binary64 (sum b h) (gap k.time (previous_in h))) zero_f64

  -- what is known of a history: its newest tick was accepted, and its sum is not negative
  pub record Good (h : History) : Type 0 where
    pub now : sound_previous (previous_in h) ≡ true
    pub nonneg : T (le 0·0 (sum b h))

  held : (h : History) → state_of (words_of (state_after b h)) ≡ state_after b h
  unfolding state_after
  held h = read_back (state_after b h) (either (λ x. T (fits binary64 x)) (holding b h) (sum_f64 h) zero_f64) (time_back h)

  module _ (k : Tick) (h : History) (g : Good h) (ok : refused_after k h ≡ 0) where
    -- the sum with this tick's gap on top
    through : T (le 0·0 (add binary64 (sum b h) (gap k.time (previous_in h))))
    through = sum_nonneg k h g.now ok (sum b h) g.nonneg

    good_next : Good (grown wipes h k)
    good_next = record { now = grown_sound wipes k h ok; nonneg = go (clear_of k) }
      where
        go : (w : Bool) → T (le 0·0 (sum b (cond w (wiped k) (followed h k))))
        go true = unfold sum in zero_nonneg
        go false = unfold sum in either (λ x. T (le 0·0 x)) (holding b h) through zero_nonneg

    -- what the tick gives if it does not clear, and in either case
    uncleared : cond (is_first (previous_in h)) (timed (input_of k) 0·0)
        (cond (holds b (state_after b h) (run_time (state_after b h) k.time) (input_of k)) (timed true (run_time (state_after b h) k.time)) off)
        ≡ stored_in (followed h k)
    unfolding holds run_time state_after holding
    uncleared =
        let since = gap k.time (previous_in h) in
        first_next h k
        (run_next (holding b h) (input_of k) (sum b h) since (positive_duration b.duration) b.duration
        (below_positive (add binary64 (sum b h) since) through b.duration))

    timed_next : output_and_timer b (state_after b h) k.time (input_of k) (clear_of k) ≡ stored_in (grown wipes h k)
    unfolding output_and_timer state_after
    timed_next = go (clear_of k) uncleared
      where
        go : (w : Bool) {t : Timed} → t ≡ stored_in (followed h k) → cond w off t ≡ stored_in (cond w (wiped k) (followed h k))
        go true e = unfold holding in refl
        go false e = e

    -- the block's next state is the history's
    state_next : advance b (state_of (words_of (state_after b h))) k.time k.inputs ≡ state_after b (grown wipes h k)
    unfolding advance next state_after
    state_next = rw (held h) (λ i. record {
      held = (timed_next i).y;
      timer = (timed_next i).timer;
      previous = sym (newest_grown None (λ (j : Tick). Some j.time) wipes k h) i;
    })

  -- a wiping tick leaves the state of the history that is this tick alone
  wiped_state : (k : Tick) (w : List ℕ) → clear_of k ≡ true → advance b (state_of w) k.time k.inputs ≡ state_after b (wiped k)
  unfolding advance next output_and_timer state_after holding
  wiped_state k w c = simp c

  pub wiped_words : WipedWords (machine b) (account b)
  unfolding stepped_machine
  wiped_words k w p = ap words_of (wiped_state k w p.wiping)

  pub kept : Kept (machine b) (account b) Good
  unfolding stepped_machine words_of state_after
  kept = record {
    quiet = λ w time i. refl;
    sound_asks = λ w. refl;
    counted = λ h. refl;
    decodes = λ h g. unfold state_of in rw (time_back h) g.now;
    previous = λ h g. unfold state_of in time_back h;
    fresh = unfold holding in refl;
    good_fresh = record { now = refl; nonneg = unfold sum in zero_nonneg };
    wiped_words = wiped_words;
    good_wiped = λ k f. record { now = f; nonneg = unfold sum in zero_nonneg };
    output = λ k h g ok. ap outputs (state_next k h g ok);
    after = λ k h g ok. ap words_of (state_next k h g ok);
    good = good_next;
  }

  pub told : RetoldFromWiping (machine b) (account b)
  told = from_wiping (machine b) (account b) Good kept

  pub wiped_alike : AlikeFromWiping (machine b) (account b)
  wiped_alike = alike (machine b) (account b) wiped_words

  pub told_from_start : RetoldFromStart (machine b) (account b)
  told_from_start = from_start (machine b) (account b) Good kept

  -- the wiping tick's own answer
  pub wiping_answer : AnswersWiping (machine b) (account b)
  unfolding stepped_machine
  wiping_answer = answers_wiping (machine b) (account b) (λ h. outputs (state_after b h)) (λ k h. refl) (λ k w p. ap outputs (wiped_state k w p.wiping))
