-- Demand 3 for `TrueDelay`: its steps keep its account. Assumes nothing.
use Rattle.std.specs.Prelude.{None, Some}
use mathlib.Core.Path.{◌≡◌, refl, sym, ap, ◌∙◌}
use mathlib.Core.Bool.{Bool, true, false, not, ◌&&◌, ◌||◌, cond, true≢false}
use mathlib.Core.List.{List}
use Prim.Native.Nat.{ℕ}
use borrow.Author.Tests.{not-true}
use lib.Dec.{T}
use lib.Ieee.{Float, binary64, fits, add, lt, le}
use lib.Ieee.Bits.{is_true}
use lib.Ieee.Fits.{add-fits}
use lib.Ieee.Scale.{finite}
use Rattle.reals.specs.Words.{0·0}
use Rattle.reals.proofs.Order.{lt_not_ge}
use Rattle.dynamics.specs.Previous.{sound_previous, gap, is_first}
use Rattle.dynamics.specs.Leaves.{positive_duration, timed}
use Rattle.dynamics.specs.Machine.{Tick}
use Rattle.dynamics.specs.Stepped.{stepped_machine}
use Rattle.dynamics.specs.History.{History, started, wiped, followed, previous_in, refused_after, grown, RetoldFromWiping, AlikeFromWiping, AnswersWiping, RetoldFromStart}
use Rattle.dynamics.proofs.Gaps.{zero_nonneg, zero_f64, either, sum_nonneg, sum_keeps}
use Rattle.dynamics.proofs.Histories.{WipedWords, Kept, forward, newest_grown, time_back, from_wiping, from_start, alike, answers_wiping}
use Rattle.true_delay.specs.TrueDelay.{machine, output_and_timer, next, advance, state_of, words_of, outputs}
use Rattle.true_delay.specs.Account.{input_of, input_in, wipes, sum, delay, at_once, passes, timer, state_after, account}
use Rattle.true_delay.specs.declared.TrueDelay.{TrueDelay}
use Rattle.true_delay.proofs.Decoding.{read_back}

-- The first tick: u is its input, i the setting delay_on_init, x the setting delay_time.
first : (u i : Bool) (x : Float)
    → cond (not u) (timed false 0·0) (cond (i && lt 0·0 (positive_duration x)) (timed false 0·0) (timed true (positive_duration x)))
    ≡ timed (u && (not i || le (positive_duration x) 0·0)) (cond u (cond (not i || false) (positive_duration x) 0·0) 0·0)
first false i x = refl
first true false x = refl
first true true x = unfold positive_duration in go (lt 0·0 x) refl
  where
    go : (p : Bool) → lt 0·0 x ≡ p
        → cond (lt 0·0 (cond p x 0·0)) (timed false 0·0) (timed true (cond p x 0·0)) ≡ timed (le (cond p x 0·0) 0·0) 0·0
    go true e = simp (e, lt_not_ge 0·0 x e)
    go false e = unfold lt le in refl

-- A later tick: u and v are its input and the one before, a whether it passes at once, d the delay, x the sum before, t the stored
-- timer, g the gap. The timer is the sum until the output is true, and what the sum has reached it keeps.
tick : (u v a : Bool) (d x t g : Float) → (a ≡ true → v ≡ true) → (v && (a || le d x) ≡ false → v ≡ true → t ≡ x) → (T (le d x) → T (le d (add binary64 x g)))
    → cond (not u) (timed false 0·0) (cond (v && (a || le d x)) (timed true d) (cond (not v) (timed (le d 0·0) 0·0) (timed (le d (add binary64 t g)) (add binary64 t g))))
    ≡ timed (u && (a || le d (cond v (add binary64 x g) 0·0))) (cond u (cond (a || (v && (a || le d x))) d (cond v (add binary64 x g) 0·0)) 0·0)
tick false v a d x t g begun same keeps = refl
tick true false true d x t g begun same keeps = absurd (true≢false (sym (begun refl)))
tick true false false d x t g begun same keeps = refl
tick true true true d x t g begun same keeps = refl
tick true true false d x t g begun same keeps = go (le d x) same keeps
  where
    go : (p : Bool) → (p ≡ false → true ≡ true → t ≡ x) → (T p → T (le d (add binary64 x g)))
        → cond p (timed true d) (timed (le d (add binary64 t g)) (add binary64 t g)) ≡ timed (le d (add binary64 x g)) (cond p d (add binary64 x g))
    go true same keeps = λ j. timed (sym (is_true (le d (add binary64 x g)) (keeps tt)) j) d
    go false same keeps = rw (same refl refl)

contra : (p q : Bool) → (T p → T q) → q ≡ false → p ≡ false
contra true q f e = sym (is_true q (f tt)) ∙ e
contra false q f e = refl

-- an output that is false under a true input was false one tick before: y is the sum with the gap on top
still_false : (v a : Bool) (d x y : Float) → (T (le d x) → T (le d y)) → a || le d (cond v y 0·0) ≡ false → a || (v && (a || le d x)) ≡ false
still_false v true d x y f e = e
still_false true false d x y f e = contra (le d x) (le d y) f e
still_false false false d x y f e = refl

sum_f64 : (h : History) → T (fits binary64 (sum h))
unfolding sum
sum_f64 started = zero_f64
sum_f64 (wiped k) = zero_f64
sum_f64 (followed h k) = either (λ x. T (fits binary64 x)) (input_in h) (add-fits binary64 (sum h) (gap k.time (previous_in h))) zero_f64

-- whatever its settings are
module _ (b : TrueDelay) where
  -- a wiping tick leaves the state of the history that is this tick alone
  wiped_state : (k : Tick) (w : List ℕ) → not (input_of k) ≡ true → advance b (state_of w) k.time k.inputs ≡ state_after b (wiped k)
  unfolding advance next output_and_timer state_after passes timer
  wiped_state k w r = simp (not-true (input_of k) r)

  pub wiped_words : WipedWords (machine b) (account b)
  unfolding stepped_machine
  wiped_words k w p = ap words_of (wiped_state k w p.wiping)

  pub wiped_alike : AlikeFromWiping (machine b) (account b)
  wiped_alike = alike (machine b) (account b) wiped_words

  -- the wiping tick's own answer
  pub wiping_answer : AnswersWiping (machine b) (account b)
  unfolding stepped_machine
  wiping_answer = answers_wiping (machine b) (account b) (λ h. outputs (state_after b h)) (λ k h. refl) (λ k w p. ap outputs (wiped_state k w p.wiping))

-- where delay_time is an f64, as every setting that a call brings is: a held output stores it
module _ (b : TrueDelay) (is_f64 : T (fits binary64 b.delay_time)) where
  delay_f64 : T (fits binary64 (delay b))
  unfolding positive_duration
  delay_f64 = either (λ x. T (fits binary64 x)) (lt 0·0 b.delay_time) is_f64 zero_f64

  timer_f64 : (h : History) → T (fits binary64 (timer b h))
  unfolding timer
  timer_f64 started = zero_f64
  timer_f64 (wiped k) = zero_f64
  timer_f64 (followed h k) = either (λ x. T (fits binary64 x)) (at_once b h || passes b h) delay_f64 (sum_f64 (followed h k))

  held : (h : History) → state_of (words_of (state_after b h)) ≡ state_after b h
  unfolding state_after
  held h = read_back (state_after b h) (timer_f64 h) (time_back h)

  -- what is known of a history: its newest tick was accepted; its sum is not negative; what passes at once after the first tick has a
  -- true input; the timer is the sum until the output is true
  pub record Good (h : History) : Type 0 where
    pub now : sound_previous (previous_in h) ≡ true
    pub nonneg : T (le 0·0 (sum h))
    pub begun : is_first (previous_in h) ≡ false → at_once b h ≡ true → input_in h ≡ true
    pub running : passes b h ≡ false → input_in h ≡ true → timer b h ≡ sum h

  good_fresh : Good started
  unfolding sum timer passes
  good_fresh = record { now = refl; nonneg = zero_nonneg; begun = λ l _. absurd (true≢false l); running = λ _ _. refl }

  good_wiped : (k : Tick) → finite k.time ≡ true → Good (wiped k)
  unfolding sum timer at_once
  good_wiped k f = record { now = f; nonneg = zero_nonneg; begun = λ _ o. absurd (true≢false (sym o)); running = λ _ _. refl }

  module _ (k : Tick) where
    keeps : (h : History) → Good h → refused_after k h ≡ 0 → T (le (delay b) (sum h)) → T (le (delay b) (add binary64 (sum h) (gap k.time (previous_in h))))
    keeps h g ok = sum_keeps k h g.now ok (sum h) g.nonneg (delay b) (sum_f64 h)

    -- the tick's output and timer are those of the history that it follows, if its input is true
    timed_next : (h : History) → Good h → refused_after k h ≡ 0
        → output_and_timer b (state_after b h) k.time (input_of k) ≡ timed (input_of k && (at_once b h || le (delay b) (sum (followed h k)))) (cond (input_of k) (timer b (followed h k)) 0·0)
    unfolding output_and_timer state_after passes timer sum at_once
    timed_next started g ok = first (input_of k) b.delay_on_init b.delay_time
    timed_next (wiped j) g ok =
        tick (input_of k) (input_of j) (at_once b (wiped j)) (delay b) (sum (wiped j)) (timer b (wiped j)) (gap k.time (Some j.time)) (g.begun refl) g.running (keeps (wiped j) g ok)
    timed_next (followed h j) g ok =
        tick (input_of k) (input_of j) (at_once b (followed h j)) (delay b) (sum (followed h j)) (timer b (followed h j)) (gap k.time (Some j.time)) (g.begun refl) g.running (keeps (followed h j) g ok)

    module _ (h : History) (g : Good h) (ok : refused_after k h ≡ 0) where
      timer_next : cond (input_of k) (timer b (followed h k)) 0·0 ≡ timer b (grown wipes h k)
      timer_next = go (input_of k)
        where
          go : (u : Bool) → cond u (timer b (followed h k)) 0·0 ≡ timer b (cond (not u) (wiped k) (followed h k))
          go true = refl
          go false = unfold timer in refl

      passes_next : input_of k && (at_once b h || le (delay b) (sum (followed h k))) ≡ passes b (grown wipes h k)
      passes_next = go (input_of k) refl
        where
          go : (u : Bool) → input_of k ≡ u → u && (at_once b h || le (delay b) (sum (followed h k))) ≡ passes b (cond (not u) (wiped k) (followed h k))
          go true e = unfold passes at_once in simp e
          go false e = unfold passes in simp e

      -- the block's next state is the history's
      state_next : advance b (state_of (words_of (state_after b h))) k.time k.inputs ≡ state_after b (grown wipes h k)
      unfolding advance next state_after
      state_next = rw (held h, timed_next h g ok) (λ i. record {
        timer = timer_next i;
        previous = sym (newest_grown None (λ (j : Tick). Some j.time) wipes k h) i;
        input = sym (newest_grown false input_of wipes k h) i;
        held = passes_next i;
      })

      was_false : input_of k ≡ true → passes b (followed h k) ≡ false → at_once b h || passes b h ≡ false
      unfolding passes sum at_once
      was_false e f =
          still_false (input_in h) (at_once b h) (delay b) (sum h) (add binary64 (sum h) (gap k.time (previous_in h))) (keeps h g ok)
          (sym (ap (λ (u : Bool). u && (at_once b h || le (delay b) (sum (followed h k)))) e) ∙ f)

      good_next : Good (grown wipes h k)
      good_next = go (input_of k) refl
        where
          go : (u : Bool) → input_of k ≡ u → Good (cond (not u) (wiped k) (followed h k))
          go false e = good_wiped k (forward k h ok).0
          go true e = record {
            now = (forward k h ok).0;
            nonneg = unfold sum in either (λ x. T (le 0·0 x)) (input_in h) (sum_nonneg k h g.now ok (sum h) g.nonneg) zero_nonneg;
            begun = λ _ _. e;
            running = λ f _. unfold timer in simp (was_false e f);
          }

  pub kept : Kept (machine b) (account b) Good
  unfolding stepped_machine words_of state_after
  kept = record {
    quiet = λ w time i. refl;
    sound_asks = λ w. refl;
    counted = λ h. refl;
    decodes = λ h g. unfold state_of in rw (time_back h) g.now;
    previous = λ h g. unfold state_of in time_back h;
    fresh = unfold timer passes in refl;
    good_fresh = good_fresh;
    wiped_words = wiped_words b;
    good_wiped = good_wiped;
    output = λ k h g ok. ap outputs (state_next k h g ok);
    after = λ k h g ok. ap words_of (state_next k h g ok);
    good = good_next;
  }

  pub told : RetoldFromWiping (machine b) (account b)
  told = from_wiping (machine b) (account b) Good kept

  pub told_from_start : RetoldFromStart (machine b) (account b)
  told_from_start = from_start (machine b) (account b) Good kept
