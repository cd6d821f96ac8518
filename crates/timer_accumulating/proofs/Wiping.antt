-- Demand 3 for `TimerAccumulating`: its steps keep its account. Assumes nothing.
use Rattle.std.specs.Prelude.{None, Some}
use mathlib.Core.Path.{◌≡◌, refl, sym, ap, ◌∙◌}
use mathlib.Core.Bool.{Bool, true, false, not, ◌&&◌, cond}
use mathlib.Core.List.{List}
use Prim.Native.Nat.{ℕ}
use lib.Dec.{T}
use lib.ListN.{get_or}
use lib.Ieee.{Float, binary64, fits, add, le}
use lib.Ieee.Fits.{add-fits}
use Rattle.reals.specs.Words.{0·0, flag_of}
use Rattle.dynamics.specs.Previous.{sound_previous, gap, is_first}
use Rattle.dynamics.specs.Leaves.{rising}
use Rattle.dynamics.specs.Machine.{Tick}
use Rattle.dynamics.specs.Stepped.{stepped_machine}
use Rattle.dynamics.specs.History.{History, started, wiped, followed, previous_in, refused_after, grown, RetoldFromWiping, AlikeFromWiping, AnswersWiping, RetoldFromStart}
use Rattle.dynamics.proofs.Gaps.{zero_nonneg, zero_f64, either, sum_nonneg, sum_keeps}
use Rattle.dynamics.proofs.Histories.{WipedWords, Kept, newest_grown, time_back, grown_sound, from_wiping, from_start, alike, answers_wiping}
use Rattle.timer_accumulating.specs.TimerAccumulating.{machine, y_now, passed_now, next, advance, state_of, words_of, outputs}
use Rattle.timer_accumulating.specs.Account.{input_of, reset_of, input_in, wipes, total, state_after, account}
use Rattle.timer_accumulating.specs.declared.TimerAccumulating.{TimerAccumulating}
use Rattle.timer_accumulating.proofs.Decoding.{read_back}

or_holds : (p q : Bool) → (T q → T p) → cond p true q ≡ p
or_holds true q f = refl
or_holds false true f = absurd (f tt)
or_holds false false f = refl

-- passed is a latch, and says what the total says, since the total does not fall: x before the tick, y with its gap on top
latch : (wipes u v : Bool) (t x y : Float) → (T (le t x) → T (le t y))
    → cond wipes (le t 0·0) (cond (rising u v) (le t x) (cond (u && le t (cond wipes 0·0 (cond (v && u) y x))) true (le t x))) ≡ le t (cond wipes 0·0 (cond (v && u) y x))
latch true u v t x y f = refl
latch false true true t x y f = or_holds (le t y) (le t x) f
latch false true false t x y f = refl
latch false false true t x y f = refl
latch false false false t x y f = refl

total_f64 : (h : History) → T (fits binary64 (total h))
unfolding total
total_f64 started = zero_f64
total_f64 (wiped k) = zero_f64
total_f64 (followed h k) = either (λ x. T (fits binary64 x)) (input_in h && input_of k) (add-fits binary64 (total h) (gap k.time (previous_in h))) (total_f64 h)

-- what is known of a history: its newest tick was accepted, and its total is not negative
pub record Good (h : History) : Type 0 where
  pub now : sound_previous (previous_in h) ≡ true
  pub nonneg : T (le 0·0 (total h))

-- a first tick has no input before it
not_first : (h : History) (u : Bool) → not (is_first (previous_in h)) && (input_in h && u) ≡ input_in h && u
not_first started u = refl
not_first (wiped k) u = refl
not_first (followed h k) u = refl

module _ (k : Tick) (h : History) (g : Good h) (ok : refused_after k h ≡ 0) where
  -- the total with this tick's gap on top
  sum : Float
  sum = add binary64 (total h) (gap k.time (previous_in h))

  total_is : total (grown wipes h k) ≡ cond (wipes k h) 0·0 (cond (input_in h && input_of k) sum (total h))
  unfolding total sum
  total_is = go (wipes k h)
    where
      go : (w : Bool) → total (cond w (wiped k) (followed h k)) ≡ cond w 0·0 (cond (input_in h && input_of k) (add binary64 (total h) (gap k.time (previous_in h))) (total h))
      go true = refl
      go false = refl

  grows : (t : Float) → T (le t (total h)) → T (le t sum)
  unfolding sum
  grows t = sum_keeps k h g.now ok (total h) g.nonneg t (total_f64 h)

  good_next : Good (grown wipes h k)
  unfolding sum
  good_next = record {
    now = grown_sound wipes k h ok;
    nonneg = rw total_is
        (either (λ x. T (le 0·0 x)) (wipes k h) zero_nonneg
        (either (λ x. T (le 0·0 x)) (input_in h && input_of k) (sum_nonneg k h g.now ok (total h) g.nonneg) g.nonneg));
  }

  module _ (b : TimerAccumulating) where
    held : state_of (words_of (state_after b h)) ≡ state_after b h
    unfolding state_after
    held = read_back (state_after b h) (total_f64 h) (time_back h)

    total_next : y_now (state_after b h) k.time (input_of k) (wipes k h) ≡ total (grown wipes h k)
    unfolding y_now state_after sum
    total_next = rw (not_first h (input_of k)) (sym total_is)

    passed_next : passed_now b (state_after b h) (input_of k) (wipes k h) (total (grown wipes h k)) ≡ le b.t (total (grown wipes h k))
    unfolding passed_now state_after
    passed_next = rw total_is (latch (wipes k h) (input_of k) (input_in h) b.t (total h) sum (grows b.t))

    -- the block's next state is the history's
    state_next : advance b (state_of (words_of (state_after b h))) k.time k.inputs ≡ state_after b (grown wipes h k)
    unfolding advance next state_after
    state_next = rw held (λ i. record {
      total = total_next i;
      previous = sym (newest_grown None (λ (j : Tick). Some j.time) wipes k h) i;
      input = sym (newest_grown false input_of wipes k h) i;
      reset = sym (newest_grown false reset_of wipes k h) i;
      passed = (ap (λ (x : Float). passed_now b (state_after b h) (input_of k) (wipes k h) x) total_next ∙ passed_next) i;
    })

module _ (b : TimerAccumulating) where
  -- a wiping tick leaves the state of the history that is this tick alone
  wiped_state : (k : Tick) (w : List ℕ) → rising (reset_of k) (flag_of (get_or w 3 0)) ≡ true → advance b (state_of w) k.time k.inputs ≡ state_after b (wiped k)
  unfolding advance next y_now passed_now state_of state_after total
  wiped_state k w r = simp r

  pub wiped_words : WipedWords (machine b) (account b)
  unfolding stepped_machine
  wiped_words k w p = ap words_of (wiped_state k w p.wiping)

  pub kept : Kept (machine b) (account b) Good
  unfolding stepped_machine words_of state_after
  kept = record {
    quiet = λ w time i. refl;
    sound_asks = λ w. refl;
    counted = λ h. refl;
    decodes = λ h g. unfold state_of in rw (time_back h) g.now;
    previous = λ h g. unfold state_of in time_back h;
    fresh = unfold total in refl;
    good_fresh = record { now = refl; nonneg = unfold total in zero_nonneg };
    wiped_words = wiped_words;
    good_wiped = λ k f. record { now = f; nonneg = unfold total in zero_nonneg };
    output = λ k h g ok. ap outputs (state_next k h g ok b);
    after = λ k h g ok. ap words_of (state_next k h g ok b);
    good = good_next;
  }

  pub told : RetoldFromWiping (machine b) (account b)
  told = from_wiping (machine b) (account b) Good kept

  pub wiped_alike : AlikeFromWiping (machine b) (account b)
  wiped_alike = alike (machine b) (account b) wiped_words

  pub told_from_start : RetoldFromStart (machine b) (account b)
  told_from_start = from_start (machine b) (account b) Good kept

  -- the wiping tick's own answer
  pub wiping_answer : AnswersWiping (machine b) (account b)
  unfolding stepped_machine
  wiping_answer = answers_wiping (machine b) (account b) (λ h. outputs (state_after b h)) (λ k h. refl) (λ k w p. ap outputs (wiped_state k w p.wiping))
