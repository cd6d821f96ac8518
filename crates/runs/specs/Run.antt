-- A run: many whole ticks of one block on one region, words in and words out. Definitions only.
use Rattle.std.specs.Prelude.{ℕ, ◌+◌, ◌*◌, ◌/◌, ◌%◌, ◌≡◌, Bool, ◌&&◌, cond, List, [], ◌∷◌, ◌++◌, eqb, length, get_or}
use Rattle.reals.specs.Words.{real_of, word_of, word_of_flag}
use Rattle.dynamics.specs.Answer.{Answer, accept}
use Rattle.dynamics.specs.Machine.{Machine, start_refusal, updated_words, tick_answer}
use Rattle.runs.specs.declared.words.Asked.{Asked}

-- ---- words and ticks

-- how many words a tick has, and how many its answer
abbrev pub words_per_tick : ℕ
words_per_tick = 4

abbrev pub words_per_answer : ℕ
words_per_answer = 4

-- how many whole ticks there are in words
abbrev pub ticks_in : List ℕ → ℕ
ticks_in words = length words / words_per_tick

-- four words as a tick: its time, then its inputs
abbrev pub asked_by : (time first second third : ℕ) → Asked
asked_by time first second third = record { time = real_of time; inputs = record { first = first; second = second; third = third } }

-- the ticks that words say; words after the last whole tick say nothing
unfoldable pub asked : List ℕ → List Asked
asked [] = []
asked (time ∷ []) = []
asked (time ∷ first ∷ []) = []
asked (time ∷ first ∷ second ∷ []) = []
asked (time ∷ first ∷ second ∷ third ∷ more) = asked_by time first second third ∷ asked more

-- the tick of this number, from 0
abbrev pub asked_at : List ℕ → ℕ → Asked
asked_at words n =
    let at = words_per_tick * n in
    asked_by (get_or words at 0) (get_or words (at + 1) 0) (get_or words (at + 2) 0) (get_or words (at + 3) 0)

-- an answer as words
abbrev pub answer_in_words : Answer → List ℕ
answer_in_words a = a.refusal ∷ word_of a.real ∷ word_of_flag a.boolean ∷ word_of_flag a.warning ∷ []

-- ---- a run of ticks on a region

module _ (M : Machine) where
  -- the region after them: each tick finds what the one before it left
  unfoldable pub ran_words : List ℕ → List Asked → List ℕ
  ran_words region [] = region
  ran_words region (k ∷ more) = ran_words (updated_words M k.time k.inputs region) more

  -- their answers, one after the other
  unfoldable pub ran_answers : List ℕ → List Asked → List ℕ
  ran_answers region [] = []
  ran_answers region (k ∷ more) =
      answer_in_words (tick_answer M k.time k.inputs region) ++ ran_answers (updated_words M k.time k.inputs region) more

-- ---- the form of a run

-- the words are whole ticks
abbrev pub whole_ticks : List ℕ → Bool
whole_ticks ticks = eqb (length ticks % words_per_tick) 0

-- there is room for an answer to each tick, and no more
abbrev pub answer_each : (ticks answers : List ℕ) → Bool
answer_each ticks answers = eqb (length answers) (words_per_answer * ticks_in ticks)

-- the refusal number of words that do not fit
abbrev pub bad_ticks : ℕ
bad_ticks = 14

-- ---- the contract of a run

module _ (M : Machine) (ticks region answers : List ℕ) where
  -- 14 unless the words fit, and then as a start is refused, by 2 or 3; 0 is accepted. Tests 5, 6 and 7 are of each tick
  unfoldable pub run_refusal : ℕ
  run_refusal = cond (whole_ticks ticks && answer_each ticks answers) (start_refusal M region) bad_ticks

  -- a run leaves the region and the answers of its ticks; a refused one leaves both as they were
  abbrev pub ran_region : List ℕ
  ran_region = accept run_refusal (ran_words M region (asked ticks)) region

  abbrev pub ran_says : List ℕ
  ran_says = accept run_refusal (ran_answers M region (asked ticks)) answers

  pub record Runs (r : ℕ) (left said : List ℕ) : Type 0 where
    pub number : r ≡ run_refusal
    pub leaves : left ≡ ran_region
    pub says : said ≡ ran_says
