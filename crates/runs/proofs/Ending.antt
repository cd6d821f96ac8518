-- How a run ends, over any machine: by which test it is refused, or accepted. Assumes nothing.
use mathlib.Core.Path.{◌≡◌, refl, sym, ap, ◌∙◌}
use mathlib.Core.Bool.{Bool, true, false, ◌&&◌, cond}
use mathlib.Core.List.{List}
use Prim.Native.Nat.{ℕ, ◌%◌}
use native.Mathlib.Omega.{arith}
use borrow.Author.Tests.{eq-eqb, ne_eqb}
use lib.Dec.{eqb}
use lib.ListN.{length}
use Rattle.std.specs.Prelude.{Result, Ok, Err, IsErrAnd}
use Rattle.dynamics.specs.Answer as table
use Rattle.dynamics.specs.Machine.{Machine, start_refusal}
use Rattle.dynamics.specs.declared.refusal.Refusal.{Refusal}
use Rattle.dynamics.proofs.Accepted as call
use Rattle.dynamics.proofs.Opening as opening
use Rattle.runs.specs.NoRun.{number, why}
use Rattle.runs.specs.declared.NoRun.{NoRun}
use Rattle.runs.specs.declared.NoRun.TheVariants.{BadTicks, Form}
use Rattle.runs.specs.Run.{words_per_tick, asked, ran_words, ran_answers, answer_each, bad_ticks, run_refusal, Runs}

-- ---- why a run is none
-- what `?` makes of a refusal of its form
pub handed : {X : Type 0} (d : Result X NoRun) (r : Refusal) → IsErrAnd d (λ q. q ≡ Form r) → why d ≡ table.number r
handed (Ok x) r e = absurd e
handed (Err q) r e = ap number e

-- each has a number, which is not 0
pub some_number : (q : NoRun) → number q ≡ 0 → ⊥
some_number BadTicks e = omega arith
some_number (Form r) e = opening.some_number r e

-- ---- the number of a run
module _ (M : Machine) (ticks region answers : List ℕ) where
  -- the words are not whole ticks
  pub no_ticks : (length ticks % words_per_tick ≡ 0 → ⊥) → bad_ticks ≡ run_refusal M ticks region answers
  unfolding run_refusal
  no_ticks h = rw (ne_eqb _ _ h) refl

  module _ (whole : length ticks % words_per_tick ≡ 0) where
    -- the answers have another number of words
    pub no_room : (answer_each ticks answers ≡ false) → bad_ticks ≡ run_refusal M ticks region answers
    unfolding run_refusal
    no_room h = rw (eq-eqb _ _ whole, h) refl

    -- the words fit: the number is a start's
    pub as_start : answer_each ticks answers ≡ true → {r : ℕ} → r ≡ start_refusal M region → r ≡ run_refusal M ticks region answers
    unfolding run_refusal
    as_start each e = rw (eq-eqb _ _ whole, each) e

-- ---- a run with its number
module _ (M : Machine) (ticks region answers : List ℕ) {r : ℕ} (number : r ≡ run_refusal M ticks region answers) where
  -- a run that is not refused has room for its answers
  pub room_each : r ≡ 0 → answer_each ticks answers ≡ true
  unfolding run_refusal
  room_each z = go (eqb (length ticks % words_per_tick) 0) (answer_each ticks answers) (sym number ∙ z)
    where
      go : (w e : Bool) → cond (w && e) (start_refusal M region) bad_ticks ≡ 0 → e ≡ true
      go true true z = refl
      go true false z = let no : ◌≡◌ {A = ℕ} bad_ticks 0 = z in absurd (omega arith)
      go false e z = let no : ◌≡◌ {A = ℕ} bad_ticks 0 = z in absurd (omega arith)

  pub refused : (r ≡ 0 → ⊥) → Runs M ticks region answers r region answers
  refused h = record { number = number; leaves = call.refused _ region _ number h; says = call.refused _ answers _ number h }

  pub accepted : r ≡ 0 → {left said : List ℕ} → left ≡ ran_words M region (asked ticks) → said ≡ ran_answers M region (asked ticks) → Runs M ticks region answers 0 left said
  accepted z w s =
      let none : 0 ≡ run_refusal M ticks region answers = sym z ∙ number in
      record { number = none; leaves = w ∙ call.accepted _ region _ none; says = s ∙ call.accepted _ answers _ none }
