-- The answers that a line stores. Definitions only.
use Rattle.std.specs.Prelude.{ℕ, ◌+◌, List, Bool, ◌&&◌, get_or, eqb}
use Rattle.reals.specs.Words.{word_of, word_of_flag}
use Rattle.dynamics.specs.Answer.{Answer}
use Rattle.replay.specs.declared.answer.Stored.{Stored}

-- the five words from `at` on
unfoldable pub stored_at : List ℕ → ℕ → Stored
stored_at words at = record {
  refusal = get_or words at 0;
  real = get_or words (at + 1) 0;
  boolean = get_or words (at + 2) 0;
  update_refusal = get_or words (at + 3) 0;
  warning = get_or words (at + 4) 0;
}

-- an answer has these words: its refusal, real, boolean and warning
unfoldable pub answers_with : Answer → ℕ → ℕ → ℕ → ℕ → Bool
answers_with a refusal real boolean warning =
    (eqb a.refusal refusal && eqb (word_of a.real) real)
    && (eqb (word_of_flag a.boolean) boolean && eqb (word_of_flag a.warning) warning)

-- an emit hands out no warning, an update its warning alone, a whole tick both
abbrev pub meets_emit : Answer → Stored → Bool
meets_emit a s = answers_with a s.refusal s.real s.boolean 0

abbrev pub meets_update : Answer → Stored → Bool
meets_update a s = answers_with a s.update_refusal 0 0 s.warning

abbrev pub meets_tick : Answer → Stored → Bool
meets_tick a s = answers_with a s.refusal s.real s.boolean s.warning
