-- A run in two parts is one run, over any machine. Assumes nothing.
use mathlib.Core.Path.{◌≡◌, refl, ap}
use mathlib.Core.List.{List, [], ◌∷◌, ◌++◌}
use Prim.Native.Nat.{ℕ, ◌%◌}
use native.Mathlib.Omega.{arith}
use lib.ListN.{length}
use Rattle.dynamics.specs.Machine.{Machine, updated_words, tick_answer}
use Rattle.runs.specs.Run.{words_per_tick, asked_by, asked, answer_in_words, ran_words, ran_answers}
use Rattle.runs.specs.declared.words.Asked.{Asked}

-- words of whole ticks before other words
pub asked_parts : (words more : List ℕ) → length words % words_per_tick ≡ 0 → asked (words ++ more) ≡ asked words ++ asked more
unfolding asked
asked_parts [] more h = refl
asked_parts (a ∷ []) more h = let z : ⊥ = omega arith in absurd z
asked_parts (a ∷ b ∷ []) more h = let z : ⊥ = omega arith in absurd z
asked_parts (a ∷ b ∷ c ∷ []) more h = let z : ⊥ = omega arith in absurd z
asked_parts (a ∷ b ∷ c ∷ d ∷ words) more h = ap (λ (ks : List Asked). asked_by a b c d ∷ ks) (asked_parts words more (omega arith))

module _ (M : Machine) where
  -- the second part finds the region that the first left
  pub ran_words_parts : (region : List ℕ) (ks more : List Asked) → ran_words M region (ks ++ more) ≡ ran_words M (ran_words M region ks) more
  unfolding ran_words
  ran_words_parts region [] more = refl
  ran_words_parts region (k ∷ ks) more = ran_words_parts (updated_words M k.time k.inputs region) ks more

  -- and answers after it
  pub ran_answers_parts : (region : List ℕ) (ks more : List Asked)
      → ran_answers M region (ks ++ more) ≡ ran_answers M region ks ++ ran_answers M (ran_words M region ks) more
  unfolding ran_words ran_answers
  ran_answers_parts region [] more = refl
  ran_answers_parts region (k ∷ ks) more =
      ap (λ (words : List ℕ). answer_in_words (tick_answer M k.time k.inputs region) ++ words)
      (ran_answers_parts (updated_words M k.time k.inputs region) ks more)
