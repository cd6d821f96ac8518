-- A run of one tick is that tick. Assumes nothing.
use mathlib.Core.Path.{◌≡◌, sym, ap, ◌∙◌}
use mathlib.Core.List.{List, [], ◌∷◌}
use Prim.Native.Nat.{ℕ}
use native.Mathlib.Omega.{arith}
use lib.Ieee.{Float}
use lib.ListN.{length, get_or}
use Rattle.reals.specs.Words.{real_of}
use Rattle.dynamics.specs.Answer.{silent, accept}
use Rattle.dynamics.specs.Machine.{Machine, start_refusal, tick_refusal, updated_words, tick_answer}
use Rattle.dynamics.specs.Region.{Gives}
use Rattle.dynamics.specs.declared.call.Inputs.{Inputs}
use Rattle.dynamics.proofs.Accepted.{form_fails, refused}
use Rattle.blocks.specs.Block.{machine_of}
use Rattle.runs.specs.Run.{words_per_answer, asked, ran_words, ran_answers, run_refusal}
use Rattle.exports.specs.Boundary.{no_block, answer_crossed, three_inputs}
use Rattle.std.specs.Prelude.{Option, Some, None}
use Rattle.blocks.specs.declared.block.Block.{Block}
use Rattle.exports.specs.Calls.{by_name, update_left, tick_said, RunsBy}
use Rattle.exports.specs.declared.boundary.AnswerWords.{AnswerWords}

-- the words of one answer
abbrev pub in_order : List ℕ → AnswerWords
in_order w = record { refusal = get_or w 0 0; real = get_or w 1 0; boolean = get_or w 2 0; warning = get_or w 3 0 }

module _ (time first second third : ℕ) (w answers : List ℕ) (one : length answers ≡ words_per_answer) where
  abbrev words : List ℕ
  words = time ∷ first ∷ second ∷ third ∷ []

  -- the words of a tick and the room of an answer fit: the number is a start's
  fits : (M : Machine) → run_refusal M words w answers ≡ start_refusal M w
  unfolding run_refusal
  fits M = simp one

  -- tests 2 and 3 come first in a tick too
  module _ (M : Machine) (t : Float) (i : Inputs) {r : ℕ} (number : r ≡ start_refusal M w) (h : r ≡ 0 → ⊥) where
    same_number : r ≡ tick_refusal M t w
    unfolding start_refusal tick_refusal
    same_number = form_fails _ _ _ _ _ number h

    says_so : silent r ≡ tick_answer M t i w
    unfolding tick_answer
    says_so = ap silent same_number ∙ refused _ (silent (tick_refusal M t w)) (tick_refusal M t w) same_number h

    keeps : w ≡ updated_words M t i w
    unfolding updated_words
    keeps = refused _ w (tick_refusal M t w) same_number h

  -- a run that is refused: by the tests that come first in the tick, or because the words name no block
  pub no_tick : (n : Option Block) {r : ℕ} {left said : List ℕ} → RunsBy n words w answers r left said → (r ≡ 0 → ⊥)
      → {x : AnswerWords} → x ≡ answer_crossed (silent r)
      → Gives (tick_said n (real_of time) (three_inputs first second third) w) (update_left n (real_of time) (three_inputs first second third) w) x left
  unfolding by_name
  no_tick (Some b) ran h x =
      let M = machine_of b in
      let number = ran.number ∙ fits M in
      let i = three_inputs first second third in
      record {
        answers = x ∙ ap answer_crossed (says_so M (real_of time) i number h);
        leaves = ran.leaves ∙ sym (refused _ w _ ran.number h) ∙ keeps M (real_of time) i number h;
      }
  no_tick None ran h x = record { answers = rw ran.number at x; leaves = ran.leaves }

  -- a run that is not
  pub one_tick : (n : Option Block) {r : ℕ} {left said : List ℕ} → RunsBy n words w answers r left said → r ≡ 0
      → Gives (tick_said n (real_of time) (three_inputs first second third) w) (update_left n (real_of time) (three_inputs first second third) w) (in_order said) left
  unfolding by_name accept asked ran_words ran_answers answer_crossed three_inputs
  one_tick (Some b) ran z =
      let none : run_refusal (machine_of b) words w answers ≡ 0 = sym ran.number ∙ z in
      record { answers = ap in_order (rw none at ran.says); leaves = rw none at ran.leaves }
  one_tick None ran z = let no : ◌≡◌ {A = ℕ} no_block 0 = sym ran.number ∙ z in absurd (omega arith)
