-- The calls over words, by the block that the words name; words that name none are refused with 13. Definitions only.
use Rattle.std.specs.Prelude.{ℕ, ◌≡◌, Option, Some, None, List, Float}
use Rattle.reals.specs.Words.{word_of_flag}
use Rattle.dynamics.specs.Answer.{silent, accept}
use Rattle.dynamics.specs.Machine.{length_answer, start_refusal, decode_refusal, started_words, is_sound, emit_answer, update_answer, updated_words, tick_answer}
use Rattle.dynamics.specs.declared.call.Inputs.{Inputs}
use Rattle.blocks.specs.Block.{machine_of}
use Rattle.blocks.specs.Decoded.{state_of}
use Rattle.blocks.specs.declared.block.Block.{Block}
use Rattle.runs.specs.Run.{run_refusal, ran_region, ran_says}
use Rattle.exports.specs.Boundary.{no_block, answer_crossed, length_words, state_words, no_state}
use Rattle.exports.specs.declared.boundary.AnswerWords.{AnswerWords}
use Rattle.exports.specs.declared.boundary.LengthWords.{LengthWords}
use Rattle.exports.specs.declared.states.StateWords.{StateWords}

-- the block's, or what is given where there is none
unfoldable pub by_name : {X : Type 0} → Option Block → (Block → X) → X → X
by_name (Some b) f none = f b
by_name None f none = none

module _ (n : Option Block) where
  abbrev pub length_said : LengthWords
  length_said = by_name n (λ b. length_words (length_answer (machine_of b))) (record { refusal = no_block; length = 0 })

  module _ (w : List ℕ) where
    abbrev pub start_number : ℕ
    start_number = by_name n (λ b. start_refusal (machine_of b) w) no_block

    abbrev pub start_left : List ℕ
    start_left = by_name n (λ b. started_words (machine_of b) w) w

    abbrev pub sound_said : ℕ
    sound_said = by_name n (λ b. word_of_flag (is_sound (machine_of b) w)) 0

    abbrev pub decode_said : StateWords
    decode_said =
        by_name n
        (λ b. accept (decode_refusal (machine_of b) w) (state_words (state_of b w)) (no_state (decode_refusal (machine_of b) w)))
        (no_state no_block)

  module _ (time : Float) (i : Inputs) (w : List ℕ) where
    abbrev pub emit_said : AnswerWords
    emit_said = by_name n (λ b. answer_crossed (emit_answer (machine_of b) time i w)) (answer_crossed (silent no_block))

    abbrev pub update_said : AnswerWords
    update_said = by_name n (λ b. answer_crossed (update_answer (machine_of b) time i w)) (answer_crossed (silent no_block))

    abbrev pub tick_said : AnswerWords
    tick_said = by_name n (λ b. answer_crossed (tick_answer (machine_of b) time i w)) (answer_crossed (silent no_block))

    -- an update and a whole tick leave the same
    abbrev pub update_left : List ℕ
    update_left = by_name n (λ b. updated_words (machine_of b) time i w) w

-- a run: its number, and the region and the answers of its ticks, or both as they were
pub record RunsBy (n : Option Block) (ticks region answers : List ℕ) (r : ℕ) (left said : List ℕ) : Type 0 where
  pub number : r ≡ by_name n (λ b. run_refusal (machine_of b) ticks region answers) no_block
  pub leaves : left ≡ by_name n (λ b. ran_region (machine_of b) ticks region answers) region
  pub says : said ≡ by_name n (λ b. ran_says (machine_of b) ticks region answers) answers
