-- A stored call: its words from before, its answers and its words from after, and whether a block agrees. Definitions only.
use Rattle.std.specs.Prelude.{Option, Some, None, Result, Ok, Err, ℕ, ◌+◌, ◌≤◌, ◌≡◌, List, Bool, true, ◌&&◌, length, replicate}
use Rattle.text.specs.Bytes.{same_list}
use Rattle.dynamics.specs.Machine.{emit_answer, update_answer, updated_words, tick_answer}
use Rattle.blocks.specs.Block.{machine_of, inputs_of}
use Rattle.blocks.specs.declared.block.Block.{Block}
use Rattle.blocks.specs.declared.block.Tick.{Tick}
use Rattle.replay.specs.declared.answer.Stored.{Stored}
use Rattle.replay.specs.declared.compare.Differs.{Differs}
use Rattle.replay.specs.Answer.{stored_at, meets_emit, meets_update, meets_tick}
use Rattle.replay.specs.Region.{filled, ending}

-- the words from before the call on a region of n words, where its answers start, and the words from after it
module _ (pairs : Bool) (words : List ℕ) (at n : ℕ) where
  abbrev pub before : List ℕ
  before = filled pairs words at (replicate n 0)

  abbrev pub answers_at : ℕ
  answers_at = ending pairs words at (replicate n 0)

  abbrev pub after : List ℕ
  after = filled pairs words (answers_at + 5) before

  -- the two regions hold them, and nothing is left
  pub record Laid (answers : ℕ) (region expected : List ℕ) : Type 0 where
    pub place : answers ≡ answers_at
    pub within : answers + 5 ≤ length words
    pub old : region ≡ before
    pub new : expected ≡ after
    pub whole : length words ≡ ending pairs words (answers_at + 5) before

  abbrev pub LaidOut : Option ℕ → List ℕ → List ℕ → Type 0
  LaidOut (Some answers) region expected = Laid answers region expected
  LaidOut None region expected = Unit {0}

-- ---- what the block's machine gives, compared with what is stored

module _ (block : Block) (tick : Tick) (region : List ℕ) (stored : Stored) where
  unfoldable pub emit_agrees : Bool
  emit_agrees = meets_emit (emit_answer (machine_of block) tick.time (inputs_of tick) region) stored

  unfoldable pub update_agrees : List ℕ → Bool
  update_agrees expected =
      meets_update (update_answer (machine_of block) tick.time (inputs_of tick) region) stored
      && same_list (updated_words (machine_of block) tick.time (inputs_of tick) region) expected

  unfoldable pub tick_agrees : List ℕ → Bool
  tick_agrees expected =
      meets_tick (tick_answer (machine_of block) tick.time (inputs_of tick) region) stored
      && same_list (updated_words (machine_of block) tick.time (inputs_of tick) region) expected

module _ (block : Block) (tick : Tick) (pairs : Bool) (words : List ℕ) (at n : ℕ) where
  -- the words are a stored call on a region of n words, and the block gives all that is stored
  pub record Agrees : Type 0 where
    pub whole : length words ≡ ending pairs words (answers_at pairs words at n + 5) (before pairs words at n)
    pub by_emit : emit_agrees block tick (before pairs words at n) (stored_at words (answers_at pairs words at n)) ≡ true
    pub by_update : update_agrees block tick (before pairs words at n) (stored_at words (answers_at pairs words at n)) (after pairs words at n) ≡ true
    pub by_tick : tick_agrees block tick (before pairs words at n) (stored_at words (answers_at pairs words at n)) (after pairs words at n) ≡ true

  -- only of such a call is it said that all is as stored
  abbrev pub Shown : Result (Unit {0}) Differs → Type 0
  Shown (Ok same) = Agrees
  Shown (Err differs) = Unit {0}
